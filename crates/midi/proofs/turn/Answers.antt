-- `midi::turn` meets its contract: what is written are the strokes at the buffer's front.
use mathlib.Core.Path.{refl, sym, ◌∙◌, ap}
use native.Mathlib.Omega.{arith}
use Rattle.std.proofs.Common.{Err}
use Rattle.std.proofs.lemmas.List.{length-take-le}
use Rattle.std.proofs.lemmas.Result.{err_from_is_err_and}
use Rattle.descriptor.proofs.Written.{all-written}
use Rattle.midi_file.specs.Strokes.{note_on}
use Rattle.midi_file.proofs.Judging.{accepted-stands}
use Rattle.midi.specs.Outcome as outcome
use Rattle.midi.proofs.turn.Goals as goal

pub returns-then-read-ge3145729 : goal.returns-then-read-ge3145729
returns-then-read-ge3145729 g c = outcome.overlong c.in-Ok.read refl (omega (arith, c.in-Ok.ensures))

pub returns-in-Err : goal.returns-in-Err
returns-in-Err g c = outcome.refused c.in-Ok.read c.in-Err.refusal refl (omega arith) c.in-Err.ensures.verdict

pub slice_bounds-write-end : goal.slice_bounds-write-end
slice_bounds-write-end g c =
    let w = c.in-Ok-read.ensures in
    let strokes = accepted-stands (note_on c.args.bells) _ _ _ _ (sym w.verdict) w.count w.buffer in
    sym (length-take-le _ _ strokes.1.1)

pub shared_ref_as_front-write : goal.shared_ref_as_front-write
shared_ref_as_front-write g c =
    let w = c.in-Ok-read.ensures in
    let strokes = accepted-stands (note_on c.args.bells) _ _ _ _ (sym w.verdict) w.count w.buffer in
    let within = strokes.1.1 in
    omega (arith, within, c.read.auto.out, c.told-out)

pub returns-in-Ok-write : goal.returns-in-Ok-write
returns-in-Ok-write g c =
    let w = c.in-Ok-read.ensures in
    let strokes = accepted-stands (note_on c.args.bells) _ _ _ _ (sym w.verdict) w.count w.buffer in
    let counted = all-written c.in-Ok-write.written c.read.new.out c.in-Ok-read.count strokes.1.1 c.in-Ok-write.ensures in
    outcome.written (record { read = c.in-Ok.read; written = c.in-Ok-write.written }) refl (omega arith) (sym w.verdict) (rw counted strokes.0)
    (counted ∙ strokes.1.0)
