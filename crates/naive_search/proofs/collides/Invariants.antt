-- `naive_search::collides` meets its contract. The invariant is `Tried`. Assumes nothing.
use Prim.Native.Nat.{◌-◌, ◌≤◌}
use lib.ListN.{length}
use Rattle.naive_search.proofs.Collisions.{Tried}
use Rattle.naive_search.proofs.collides.Given as goal

abbrev pub invariant-loop-n : goal.invariant-loop-n
invariant-loop-n l = (1 ≤ l.n) × Tried l.key l.pattern l.stream l.n

abbrev pub decreases-loop-n : goal.decreases-loop-n
decreases-loop-n l = length l.pattern - l.n
