-- `naive_search::collides` meets its contract. The invariant is `Tried`.
use mathlib.Core.Path.{sym, ◌∙◌}
use native.Mathlib.Omega.{arith}
use Rattle.naive_search.proofs.Collisions.{tried-next, tried-collision, tried-whole}
use Rattle.naive_search.proofs.Decided.{never, decides-yes}
use Rattle.naive_search.proofs.collides.Goals as goal

pub returns-then-has_twin : goal.returns-then-has_twin
returns-then-has_twin c =
    decides-yes (tried-collision _ _ _ _ (omega arith) c.loop-n.invariant.1 (c.has_twin.ensures.only c.if-has_twin.true))

pub loop-n-preserved : goal.loop-n-preserved
loop-n-preserved c = (
  omega arith,
  tried-next _ _ _ _ (omega arith) (λ t. never (sym c.if-has_twin.false ∙ c.has_twin.ensures.wherever t)) c.loop-n.invariant.1,
)

pub returns : goal.returns
returns c = tried-whole _ _ _ _ _ (omega arith) c.loop-n.invariant.1 c.has_twin-2.ensures
