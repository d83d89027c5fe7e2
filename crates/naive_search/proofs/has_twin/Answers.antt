-- `naive_search::has_twin` meets its contract. The invariant is `Slid`.
use Prim.Native.Nat.{◌-◌}
use mathlib.Core.Path.{◌≡◌, sym, ◌∙◌}
use native.Mathlib.Omega.{arith}
use lib.ListN.{length}
use Rattle.naive_search.proofs.Decided.{never}
use Rattle.naive_search.proofs.Twins.{slid-first, slid-next, slid-print}
use Rattle.naive_search.proofs.has_twin.Goals as goal

pub loop-start-init : goal.loop-start-init
loop-start-init c = slid-first _ _ _ _ _ c.print_of-upto.ensures

pub loop-start-preserved : goal.loop-start-preserved
loop-start-preserved c =
    rw (c.more-before.ensures, c.more-upto.ensures)
    (slid-next _ _ _ _ _ _ _ (omega arith) c.loop-start.invariant
    (λ t. never (sym c.if-is_twin.false ∙ c.is_twin.ensures.wherever t)))

pub is_twin-requires-clause-print_value : goal.is_twin-requires-clause-print_value
is_twin-requires-clause-print_value c =
    c.cut.ensures ∙ slid-print _ _ _ _ _ _ _ _ (omega arith) c.weight_of-weight.ensures c.loop-start.invariant

pub is_twin-requires-2-clause-print_value : goal.is_twin-requires-2-clause-print_value
is_twin-requires-2-clause-print_value c =
    let x = c.args in
    let at_last : c.loop-start.start ≡ length x.stream.now - length x.block.now = omega arith in
    c.cut-2.ensures
    ∙ slid-print _ _ _ _ _ _ _ _ (omega arith) c.weight_of-weight.ensures (rw at_last at c.loop-start.invariant)
