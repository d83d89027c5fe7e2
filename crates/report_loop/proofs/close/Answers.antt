-- `report_loop::close` meets its contract: the last lines are written from the buffer's front, and counted.
use Rattle.std.proofs.Common.{refl, ◌∙◌, ap, arith, ◌+◌}
use Rattle.std.proofs.lemmas.List.{length-take-le}
use Rattle.report_core.proofs.Putting.{last-at}
use Rattle.report_loop.proofs.close.Goals as goal

pub shared_ref_as_front-put : goal.shared_ref_as_front-put
shared_ref_as_front-put g c =
    let placed = last-at _ _ _ _ c.in-Some.ensures.value c.in-Some.ensures.out_after in omega (arith, placed.within)

pub returns : goal.returns
returns g c =
    let placed = last-at _ _ _ _ c.in-Some.ensures.value c.in-Some.ensures.out_after in
    (refl, c.in_ok-written.ensures ∙ ap (λ n. c.args.s.counts.written + n) (length-take-le _ _ placed.within ∙ placed.place ∙ omega arith))
