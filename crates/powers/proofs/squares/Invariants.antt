-- `powers::squares` meets its contract: the loop doubles the exponent.
use Rattle.powers.proofs.Doubling.{Doubling}
use Rattle.powers.proofs.squares.Given as goal

abbrev pub invariant-loop-place : goal.invariant-loop-place
invariant-loop-place l = Doubling l.fn.key l.place-index-end l.place-index l.place-items l.square
