-- `naive_search::stages` meets its contract. The invariant: the stages counted and those of the rest are all. Assumes nothing.
use Prim.Native.Nat.{◌+◌}
use mathlib.Core.Path.{◌≡◌}
use Rattle.ladder.specs.Prefix.{levels}
use Rattle.naive_search.proofs.stages.Given as goal

abbrev pub invariant-loop-rest : goal.invariant-loop-rest
invariant-loop-rest l = l.k + levels l.rest ≡ levels l.m

abbrev pub decreases-loop-rest : goal.decreases-loop-rest
decreases-loop-rest l = l.rest
