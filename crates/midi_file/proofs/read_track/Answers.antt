-- `read_track` meets its contract: what was written at the second reading are the strokes that the first one counted.
use mathlib.Core.Path.{◌≡◌, sym}
use native.Mathlib.Omega.{arith}
use Rattle.midi_file.specs.Strokes.{note_on}
use Rattle.midi_file.specs.Calls.{track_strokes, track_refusal}
use Rattle.midi_file.proofs.Judging.{judged-written, lent_none}
use Rattle.midi_file.proofs.read_track.Goals as goal

pub returns-clause-buffer : goal.returns-clause-buffer
returns-clause-buffer c =
    let a = c.args in
    let rule = note_on a.bells in
    let strokes = track_strokes rule a.track.now in
    let u = c.scan-2 in
    let same = lent_none strokes a.out.now c.scan.new.out c.scan.ensures.buffer in
    let good : track_refusal rule a.track.now ≡ 0 = sym c.in_ok-count.ensures.verdict in
    let done =
    judged-written (track_refusal rule a.track.now) strokes a.out.now u.result u.new.out good
    (omega (arith, c.in_ok-count.ensures.count)) u.ensures.verdict u.ensures.count (rw same at u.ensures.buffer)
    in
    done.2
