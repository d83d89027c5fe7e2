-- `naive_search::has_twin` meets its contract. The invariant is `Slid`.
use Rattle.naive_search.proofs.Twins.{Slid}
use Rattle.naive_search.proofs.has_twin.Given as goal

abbrev pub invariant-loop-start : goal.invariant-loop-start
invariant-loop-start l = Slid l.key l.block l.stream l.n l.start l.before l.upto
