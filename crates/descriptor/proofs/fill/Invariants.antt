use Rattle.std.proofs.Common.{length, ◌-◌, ◌≤◌}
use Rattle.descriptor.proofs.fill.Given as goal

-- the bytes counted lie within the buffer
abbrev pub invariant-loop-count : goal.invariant-loop-count
invariant-loop-count g l = l.count ≤ length l.buf

-- the room that is left
abbrev pub decreases-loop-count : goal.decreases-loop-count
decreases-loop-count g l = length l.initial.buf - l.count
