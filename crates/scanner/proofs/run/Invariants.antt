-- `scanner::run`: the loop keeps the run going, with the notes of the bytes taken at the list's front.
use Rattle.std.proofs.Common.{◌≡◌, ◌+◌, ◌-◌, ◌≤◌, length, Ok}
use Rattle.notes.specs.Notes.{note_room}
use Rattle.scanner.proofs.Running.{Running}
use Rattle.scanner.proofs.run.Given as goal

abbrev pub invariant-loop-ended : goal.invariant-loop-ended
invariant-loop-ended l = record {
  going : Running l.fn.matcher l.input l.from l.initial.notes l.ended.matcher l.ended.next l.ended.noted l.ended.comparisons l.notes;
  roomy : l.ended.noted + note_room ≤ length l.initial.notes;
  accepted : l.ended.verdict ≡ Ok tt;
  own : l.ended.matcher.signature ≡ l.signature;
}

abbrev pub decreases-loop-ended : goal.decreases-loop-ended
decreases-loop-ended l = length l.input - l.ended.next
