-- `signature::levels` meets its contract: the size is 2^k and each smaller power is below m, until the size is not.
use mathlib.Core.Path.{sym}
use native.Mathlib.Omega.{arith}
use Rattle.ladder.proofs.Levels.{self-reaches, least-levels}
use Rattle.signature.proofs.levels.Goals as goal

pub overflow_add-k : goal.overflow_add-k
overflow_add-k c = omega (arith, self-reaches c.loop-size.k)

pub returns : goal.returns
returns c = sym (least-levels (record { reaches = omega arith; below = c.loop-size.invariant.1 }))
