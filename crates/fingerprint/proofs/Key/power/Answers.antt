-- `fingerprint::Key::power` meets its contract: the product so far times the base to the exponent left is the power wanted.
use Prim.Native.Nat.{◌<◌, ◌%◌}
use mathlib.Core.Path.{◌≡◌, ◌∙◌}
use native.Mathlib.Omega.{arith}
use Rattle.fingerprint.proofs.Powers.{halving-begin, halving-odd, halving-even, halving-end}
use Rattle.fingerprint.proofs.Key.power.Goals as goal
use Rattle.fingerprint.proofs.Key.power.Goals.{then-left-eq1, else-left-eq1}

pub loop-left-init : goal.loop-left-init
loop-left-init c = rw c.times-base.ensures (halving-begin _ _ (omega (arith, c.if-n-eq0.false)))

pub loop-left-preserved : goal.loop-left-preserved
loop-left-preserved c =
    let loop = c.loop-left in
    let more : 1 < loop.left = omega (arith, c.loop-left-test.true) in
    rw c.squared-base.ensures
    (elim c.if-left-eq1.branch [
      | then-left-eq1 w ↦ rw (w.product-is, w.times-product.ensures) (halving-odd loop.invariant more (omega (arith, w.if-left-eq1.true)))
      | else-left-eq1 w ↦ rw w.product-is (halving-even loop.invariant more (λ (e : loop.left % 2 ≡ 1). omega (arith, e, w.if-left-eq1.false)))
    ])

pub returns : goal.returns
returns c =
    let e = halving-end c.loop-left.invariant (omega (arith, c.loop-left-test.false)) in
    c.times.ensures ∙ (λ i. record { value = e i })
