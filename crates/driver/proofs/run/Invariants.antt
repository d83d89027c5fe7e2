-- `driver::run` is safe and ends.
use Rattle.std.proofs.Common.{length}
use Rattle.driver.proofs.run.Given as goal

abbrev pub invariant-loop-left : goal.invariant-loop-left
invariant-loop-left l = Unit {0}

abbrev pub decreases-loop-left : goal.decreases-loop-left
decreases-loop-left l = length l.left
