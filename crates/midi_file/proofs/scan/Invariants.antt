-- `scan` meets its contract: the events passed gave the strokes written, and the rest will give the others.
use Prim.Native.Nat.{ℕ, ◌-◌, ◌≤◌}
use lib.ListN.{length}
use Rattle.midi_file.specs.Strokes.{note_on}
use Rattle.midi_file.proofs.Quantities.{Passed}
use Rattle.midi_file.proofs.Scanning.{Head}
use Rattle.midi_file.proofs.scan.Given as goal

abbrev pub invariant-loop-left : goal.invariant-loop-left
invariant-loop-left l =
    (l.initial.at ≤ l.at) × ((l.at ≤ length l.track) × ((value : ℕ) × Passed l.track l.initial.at value l.at l.left))

abbrev pub decreases-loop-left : goal.decreases-loop-left
decreases-loop-left l = l.left

abbrev pub invariant-events : goal.invariant-events
invariant-events l = Head (note_on l.bells) l.track l.initial.out l.out l.running l.at l.count

abbrev pub decreases-events : goal.decreases-events
decreases-events l = length l.track - l.at
