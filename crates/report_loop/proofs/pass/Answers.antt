-- `report_loop::pass` meets its contract: each turn writes what one call of `feed` brought.
use Rattle.std.proofs.Common.{refl, sym, ap, ◌∙◌, ◌+◌, arith}
use Rattle.std.proofs.lemmas.List.{length-take-le}
use Rattle.report_core.proofs.Feeding.{err-some, err-none}
use Rattle.report_core.proofs.Hearing.{fits-within}
use Rattle.report_loop.proofs.Passing as Passing
use Rattle.report_loop.proofs.pass.Goals as goal

pub put-requires : goal.put-requires
put-requires g c =
    let f = c.feed-fed in
    let l = c.loop-next in
    let s = Passing.sound _ _ _ _ _ _ l.invariant c.loop-next-test.true _ (omega arith) _ _ f.ensures f.auto.out in
    let within = Passing.used-within _ _ _ _ _ _ l.invariant c.loop-next-test.true _ (omega arith) _ _ f.ensures f.auto.out in
    omega (arith, s.few, fits-within _ s.fits, length-take-le _ _ within)

pub overflow_add-next : goal.overflow_add-next
overflow_add-next g c =
    let l = c.loop-next in
    let f = c.feed-fed in
    let within = Passing.taken-within _ _ _ _ _ _ l.invariant c.loop-next-test.true _ (omega arith) _ _ f.ensures f.auto.out in
    omega (arith, within)

pub returns-then-is_err : goal.returns-then-is_err
returns-then-is_err g c =
    let l = c.loop-next in
    let f = c.feed-fed in
    let within = Passing.used-within _ _ _ _ _ _ l.invariant c.loop-next-test.true _ (omega arith) _ _ f.ensures f.auto.out in
    Passing.refused _ _ _ _ _ _ l.invariant c.loop-next-test.true _ (omega arith) _ _ f.ensures f.auto.out _ _
    (err-some _ (sym c.is_err.ensures.value ∙ c.if-is_err.true)) refl refl (c.in_ok-written.ensures ∙ ap (λ k. l.written + k) (length-take-le _ _ within)) refl refl refl refl

pub loop-next-smaller : goal.loop-next-smaller
loop-next-smaller g c =
    let l = c.loop-next in
    let f = c.feed-fed in
    let within = Passing.taken-within _ _ _ _ _ _ l.invariant c.loop-next-test.true _ (omega arith) _ _ f.ensures f.auto.out in
    let m = Passing.moves _ _ _ _ _ _ l.invariant c.loop-next-test.true _ (omega arith) _ _ f.ensures f.auto.out (err-none _ (sym c.is_err.ensures.value ∙ c.if-is_err.false)) in
    omega (arith, c.loop-next-test.true, within, m)

pub loop-next-preserved : goal.loop-next-preserved
loop-next-preserved g c =
    let l = c.loop-next in
    let f = c.feed-fed in
    let within = Passing.used-within _ _ _ _ _ _ l.invariant c.loop-next-test.true _ (omega arith) _ _ f.ensures f.auto.out in
    rw (c.in_ok-written.ensures ∙ ap (λ k. l.written + k) (length-take-le _ _ within))
    (Passing.on _ _ _ _ _ _ l.invariant c.loop-next-test.true _ (omega arith) _ _ f.ensures f.auto.out (err-none _ (sym c.is_err.ensures.value ∙ c.if-is_err.false)))

pub returns : goal.returns
returns g c = Passing.used-up _ _ _ _ _ _ c.loop-next.invariant c.loop-next-test.false refl refl refl refl refl
