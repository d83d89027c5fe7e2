-- `signature::prints_fit` meets its contract: each print that was passed fits.
use mathlib.Core.Path.{◌≡◌, sym, ◌∙◌}
use mathlib.Core.Bool.{true, false}
use borrow.Author.Tests.{not-true, not-false}
use Rattle.lists.proofs.Laws.{every_more, every-fails, every-none}
use Rattle.signature.specs.Signature.{place_fits, prints_fit}
use native.Mathlib.Omega.{arith}
use Rattle.signature.proofs.prints_fit.Goals as goal

pub returns-then-not-first_fits : goal.returns-then-not-first_fits
unfolding prints_fit
returns-then-not-first_fits c = rw (← c.first_fits.ensures, not-true c.first_fits.result c.if-not-first_fits.true-raw)

pub loop-i-init : goal.loop-i-init
loop-i-init c = every-none _

pub returns-then-not-place_fits : goal.returns-then-not-place_fits
unfolding prints_fit
returns-then-not-place_fits c =
    let a = c.args in
    let i = c.loop-i.i in
    let fails : place_fits a.m a.taken a.prints.now i ≡ false =
    rw (← c.reaches.ensures) (sym c.place_fits.ensures ∙ not-true _ c.if-not-place_fits.true-raw)
    in
    rw (
      ← c.first_fits.ensures,
      not-false c.first_fits.result c.if-not-first_fits.false-raw,
      every-fails (place_fits a.m a.taken a.prints.now) 21 i c.loop-i-test.true fails,
    )

pub loop-i-preserved : goal.loop-i-preserved
loop-i-preserved c =
    let a = c.args in
    let i = c.loop-i.i in
    let passes : place_fits a.m a.taken a.prints.now i ≡ true =
    rw (← c.reaches.ensures) (sym c.place_fits.ensures ∙ not-false _ c.if-not-place_fits.false-raw)
    in
    every_more (place_fits a.m a.taken a.prints.now) i c.loop-i.invariant passes

pub returns : goal.returns
unfolding prints_fit
returns c =
    let end : c.loop-i.i ≡ 21 = omega arith in
    rw (
      ← c.first_fits.ensures,
      not-false c.first_fits.result c.if-not-first_fits.false-raw,
    )
    (sym (rw end at c.loop-i.invariant))
