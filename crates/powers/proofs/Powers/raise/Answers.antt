-- `powers::Powers::raise` meets its contract: the loop goes through the binary digits of n, the lowest first.
use Prim.Native.Nat.{◌≤◌}
use mathlib.Core.Path.{◌≡◌, ◌∙◌, ap}
use native.Mathlib.Omega.{arith}
use Rattle.powers.specs.Powers.{squares_of}
use Rattle.powers.proofs.Digits.{digit-one, digit-zero}
use Rattle.powers.proofs.Powers.raise.Goals as goal
use Rattle.powers.proofs.Powers.raise.Goals.{then-left-eq1, else-left-eq1}

pub loop-square-preserved : goal.loop-square-preserved
loop-square-preserved c =
    let loop = c.loop-square in
    let own = c.args.self.now in
    let table : c.self.inside.squares ≡ squares_of own.key own.most =
    c.self.invariant.0 ∙ ap (λ t. squares_of t.key t.most) c.self.view_is in
    let reached : c.args.n ≤ own.most = omega (arith, ap (λ t. t.most) c.self.view_is) in
    elim c.if-left-eq1.branch [
      | then-left-eq1 w ↦
          rw (w.product-is, w.times-product.ensures)
          (digit-one loop.invariant own.most _ table reached c.loop-square-test.true w.if-left-eq1.true)
      | else-left-eq1 w ↦ rw w.product-is (digit-zero loop.invariant w.if-left-eq1.false)
    ]
