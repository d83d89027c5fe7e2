-- `fingerprint::Key::power` meets its contract: the product so far times the base to the exponent left is the power wanted.
use Rattle.fingerprint.proofs.Powers.{Halving}
use Rattle.fingerprint.proofs.Key.power.Given as goal

abbrev pub invariant-loop-left : goal.invariant-loop-left
invariant-loop-left l = Halving l.fn.self.r l.n l.product l.base l.left

abbrev pub decreases-loop-left : goal.decreases-loop-left
decreases-loop-left l = l.left
