-- `fingerprint::Fingerprint::join_times` meets its contract: the joins left of the block at hand are those wanted.
use Prim.Native.Nat.{◌<◌, ◌%◌}
use mathlib.Core.Path.{◌≡◌, ◌∙◌}
use native.Mathlib.Omega.{arith}
use Rattle.fingerprint.specs.Fingerprint.{joined_times}
use Rattle.fingerprint.proofs.Joins.{halved-odd, halved-even, halved-end}
use Rattle.fingerprint.proofs.Fingerprint.join_times.Goals as goal
use Rattle.fingerprint.proofs.Fingerprint.join_times.Goals.{then-many-eq1, else-many-eq1}

pub returns-then-times-eq0 : goal.returns-then-times-eq0
unfolding joined_times
returns-then-times-eq0 c = λ key n e. rw c.if-times-eq0.true

pub loop-many-preserved : goal.loop-many-preserved
loop-many-preserved c =
    let loop = c.loop-many in
    let more : 1 < loop.many = omega (arith, c.loop-many-test.true) in
    rw (c.squared-length.ensures, c.join_by-block.ensures)
    (elim c.if-many-eq1.branch [
      | then-many-eq1 w ↦
          rw (w.front-is, w.join_by-front.ensures) (halved-odd loop.invariant more (omega (arith, w.if-many-eq1.true)))
      | else-many-eq1 w ↦
          rw w.front-is (halved-even loop.invariant more (λ (e : loop.many % 2 ≡ 1). omega (arith, e, w.if-many-eq1.false)))
    ])

pub returns : goal.returns
returns c =
    λ key n e. c.join_by.ensures ∙ halved-end c.loop-many.invariant (omega (arith, c.loop-many-test.false)) key n e
