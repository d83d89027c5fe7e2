-- `read` meets its contract.
use Prim.Native.Nat.{◌+◌, ◌-◌}
use native.Mathlib.Omega.{arith}
use mathlib.Core.Path.{◌≡◌, sym}
use Rattle.std.proofs.lemmas.Result.{err_from_is_err_and}
use Rattle.midi_file.specs.Strokes.{note_on}
use Rattle.midi_file.proofs.Chunks.{track-within}
use Rattle.midi_file.proofs.Judging.{read_refused, read_whole}
use Rattle.midi_file.proofs.read.Goals as goal

pub returns-in_err-start : goal.returns-in_err-start
returns-in_err-start c =
    let p = err_from_is_err_and c.from_residual.result c.from_residual.ensures.1 in
    let done = read_refused (note_on c.args.bells) c.args.file.now c.args.out.now _ (sym c.in_err-start.ensures) in
    rw (p.1, p.2) (record { verdict = done.0; count = tt; buffer = done.2 })

pub overflow_add-start : goal.overflow_add-start
overflow_add-start c =
    omega (arith, track-within c.args.file.now _ (sym c.in_ok-start.ensures), c.well_formed)

pub slice_bounds-read_track-end : goal.slice_bounds-read_track-end
slice_bounds-read_track-end c = omega (arith, track-within c.args.file.now _ (sym c.in_ok-start.ensures))

pub returns : goal.returns
returns c =
    let a = c.args in
    let track = c.in_ok-start.field-0 in
    let u = c.read_track in
    let long : track.start + track.size - track.start ≡ track.size = omega arith in
    let done =
    read_whole (note_on a.bells) a.file.now a.out.now track (sym c.in_ok-start.ensures) u.result u.new.out
    (rw long at u.ensures.verdict, rw long at u.ensures.count, rw long at u.ensures.buffer)
    in
    record { verdict = done.0; count = done.1; buffer = done.2 }
