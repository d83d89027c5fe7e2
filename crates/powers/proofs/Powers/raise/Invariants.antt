-- `powers::Powers::raise` meets its contract: the loop goes through the binary digits of n, the lowest first.
use Rattle.powers.proofs.Digits.{Digits}
use Rattle.powers.proofs.Powers.raise.Given as goal

abbrev pub invariant-loop-square : goal.invariant-loop-square
invariant-loop-square l = Digits l.fn.self.key l.n l.product l.left l.square-index
