-- `naive_search::stages` meets its contract. The invariant: the stages counted and those of the rest are all. Assumes nothing.
use native.Mathlib.Omega.{arith}
use Rattle.naive_search.proofs.Halves.{levels-half, levels-one, levels-64}
use Rattle.naive_search.proofs.stages.Goals as goal

pub overflow_add-k : goal.overflow_add-k
overflow_add-k c =
    omega (arith, levels-64 c.args.m (omega arith), levels-half c.loop-rest.rest (omega arith))

pub loop-rest-preserved : goal.loop-rest-preserved
loop-rest-preserved c =
    omega (arith, levels-half c.loop-rest.rest (omega arith))

pub returns : goal.returns
returns c =
    omega (arith, levels-one c.loop-rest.rest (omega arith))
