-- `midi_file::event::quantity_at` meets its contract: the bytes passed make the value so far.
use Prim.Native.Nat.{◌+◌, ◌-◌, ◌≤◌, ◌<◌}
use lib.ListN.{length}
use Rattle.midi_file.proofs.Quantities.{Passed}
use Rattle.midi_file.proofs.event.quantity_at.Given as goal

abbrev pub invariant-loop-i : goal.invariant-loop-i
invariant-loop-i l =
    (0 < l.i → l.from + l.i ≤ length l.track) × Passed l.track l.from l.value (l.from + l.i) (4 - l.i)
