use Prim.Native.Nat.{◌-◌}
use lib.ListN.{length}
use Rattle.report_loop.proofs.Passing as Passing
use Rattle.report_loop.proofs.pass.Given as goal

-- the lines of the bytes taken were written
abbrev pub invariant-loop-next : goal.invariant-loop-next
invariant-loop-next g l =
    Passing.Along l.initial.progress l.initial.written l.fn.chunk l.progress l.next l.written

-- the bytes that are left
abbrev pub decreases-loop-next : goal.decreases-loop-next
decreases-loop-next g l = length l.fn.chunk - l.next
