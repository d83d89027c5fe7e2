-- No walk counts more comparisons than one more than the stages, whatever stages and byte.
-- Assumes nothing.
use Prim.Native.Nat.{ℕ, zero, suc, ◌+◌, ◌≤◌}
use mathlib.Core.Path.{◌≡◌}
use native.Mathlib.Omega.{arith}
use lib.Dec.{eqb}
use Rattle.ladder.specs.Prefix.{levels}
use Rattle.lists.proofs.Cases.{by-test}
use Rattle.stage.specs.declared.Mark.{Mark}
use Rattle.stage.specs.Stage.{sets_aside}
use Rattle.stage.specs.Stages.{Stages, stage_at}
use Rattle.walk.specs.declared.Walk.{Walk}
use Rattle.walk.specs.declared.Round.{Round}
use Rattle.walk.specs.Walk.{no_answer, promoted, promoted_under, matches, tried, ripe, visited, descended, walked_from}

module _ (c : Round) where
  promoted-count : (i : ℕ) (start : Mark) (w : Walk) → (promoted c i start w).answer.comparisons ≡ w.answer.comparisons
  unfolding promoted_under
  promoted-count i start w =
      by-test (eqb i (levels c.signature.length)) (λ e. rw (e, promoted)) (λ e. rw (e, promoted)
      (by-test (sets_aside c.signature.key (stage_at w.stages i) start) (λ f. rw f) (λ f. rw f)))

  tried-count : (i : ℕ) (start : Mark) (w : Walk) → (tried c i start w).answer.comparisons ≡ suc w.answer.comparisons
  unfolding tried
  tried-count i start w =
      by-test (matches c i start) (λ e. rw (e, tried) (promoted-count i start _)) (λ e. rw (e, tried))

  visited-count : (i : ℕ) (w : Walk) → (visited c i w).answer.comparisons ≤ suc w.answer.comparisons
  unfolding visited
  visited-count i w =
      by-test (ripe c i (stage_at w.stages i)) (λ e. rw (e, visited, tried-count) (omega arith))
      (λ e. rw (e, visited) (omega arith))

  descended-count : (i : ℕ) (w : Walk) → (descended c i w).answer.comparisons ≤ i + w.answer.comparisons
  unfolding descended
  descended-count zero w = omega arith
  descended-count (suc i) w = omega (arith, descended-count i (visited c i w), visited-count i w)

pub walked-count :
    (c : Round) (start : Mark) (stages : Stages) → (walked_from c start stages).answer.comparisons ≤ suc (levels c.signature.length)
unfolding walked_from
walked-count c start stages =
    rw tried-count
    (omega (arith, descended-count c (levels c.signature.length) (record { stages = stages; answer = no_answer })))
