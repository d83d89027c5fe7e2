-- `signature::levels` meets its contract: the size is 2^k and each smaller power is below m, until the size is not.
use Prim.Native.Nat.{ℕ, ◌-◌, ◌^◌, ◌<◌}
use mathlib.Core.Path.{◌≡◌}
use Rattle.signature.proofs.levels.Given as goal

abbrev pub invariant-loop-size : goal.invariant-loop-size
invariant-loop-size l = (l.size ≡ 2 ^ l.k) × ((j : ℕ) → j < l.k → 2 ^ j < l.m)

abbrev pub decreases-loop-size : goal.decreases-loop-size
decreases-loop-size l = l.m - l.size
