-- Each stage of a watch that is no misfit fits on the way through a byte, and behind it.
-- Assumes nothing.
use Prim.Native.Nat.{ℕ, zero, suc, ◌+◌, ◌≤◌, ◌<◌}
use mathlib.Core.Path.{◌≡◌, refl, sym, ◌∙◌}
use mathlib.Core.Logic.{inl, inr}
use mathlib.Core.Bool.{true, false, not, true≢false}
use native.Mathlib.Decide.{ℕ_discrete}
use native.Mathlib.Omega.{arith}
use lib.Dec.{eqb}
use borrow.Author.Tests.{eqb-true, eqb-false, not-true, eq-eqb, ne_eqb}
use Rattle.fingerprint.specs.Fingerprint.{Below}
use Rattle.ladder.specs.Prefix.{levels, prefix_length}
use Rattle.ladder.proofs.Levels.{first-length, levels-bound}
use Rattle.lists.proofs.Laws.{and_left, and_right}
use Rattle.lists.proofs.Cases.{by-test}
use Rattle.signature.specs.Signature.{max_length}
use Rattle.stage.specs.declared.Mark.{Mark}
use Rattle.stage.specs.declared.Stage.{Stage}
use Rattle.stage.specs.Stage.{no_stage, taken_off}
use Rattle.stage.specs.Stages.{stage_count, Stages, stage_at, with_stage}
use Rattle.stage.proofs.Fit.{Fit, idle, fit-past, fit-print}
use Rattle.stage.proofs.Keeps.{fit-later, fit-unripe, fit-off, fit-entered}
use Rattle.stage.proofs.Stages.{stage-with, stage-with-other}
use Rattle.walk.specs.declared.Walk.{Walk}
use Rattle.walk.specs.declared.Round.{Round}
use Rattle.walk.specs.Walk.{no_answer, tried, ripe, visited, descended, walked_from}
use Rattle.walk.proofs.Visits.{tried-stages}

-- Before stage i - 1 is visited: the stages above i are done, stage i has lost its ripe start, and those below are as before the byte.
pub record Midway (m t i : ℕ) (l : Stages) : Type 0 where
  pub above : (j : ℕ) → i < j → j < stage_count → Fit m j (suc t) (suc t) (stage_at l j)
  pub here : i < stage_count → Fit m i t (suc t) (stage_at l i)
  pub below : (j : ℕ) → j < i → j < stage_count → Fit m j t t (stage_at l j)

-- The stages of a watch at t, before any is visited: past k-1 nothing is listed.
pub midway-begin :
    (m t : ℕ) (l : Stages) → ((i : ℕ) → i < stage_count → Fit m i t t (stage_at l i)) → Midway m t (levels m) l
midway-begin m t l fit =
    let past : (i : ℕ) → levels m ≤ i → i < stage_count → stage_at l i ≡ no_stage =
    λ i h b. fit-past m i t t _ h (fit i b)
    in
    record {
      above = λ j o b. idle (past j (omega arith) b);
      here = λ b. idle (past _ (omega arith) b);
      below = λ j o. fit j;
    }

module _ (c : Round) (t : ℕ) (now : c.now.at ≡ suc t) where
  abbrev m : ℕ
  m = c.signature.length

  unripe-first :
      (i : ℕ) (s : Stage)
      → ripe c i s ≡ false
      → (s.held ≡ 0 → ⊥)
      → s.first.at + prefix_length m (suc i) ≡ suc t
      → ⊥
  unripe-first i s e z d = true≢false (sym (rw (ne_eqb s.held 0 z) (eq-eqb _ _ (d ∙ sym now))) ∙ e)

  tried_other : (i j : ℕ) (start : Mark) (w : Walk) → (j ≡ i → ⊥) → stage_at (tried c i start w).stages j ≡ stage_at w.stages j
  tried_other i j start w n =
      elim (tried-stages c i start w) [
        | inl e ↦ rw e
        | inr e ↦ rw e.1 (stage-with-other w.stages i _ j n)
      ]

  tried_here :
      (i : ℕ) (start : Mark) (w : Walk)
      → i ≤ levels m
      → start.at + prefix_length m i ≡ suc t
      → Below start.print
      → Fit m i t (suc t) (stage_at w.stages i)
      → Fit m i (suc t) (suc t) (stage_at (tried c i start w).stages i)
  tried_here i start w l due print q =
      elim (tried-stages c i start w) [
        | inl e ↦ rw e (fit-later m i t _ q)
        | inr e ↦
            rw e.1
            (stage-with w.stages i _ (Fit m i (suc t) (suc t)) (idle refl)
            (fit-entered m i t _ c.signature.key start (omega (arith, e.0)) due print q))
      ]

  module _ (i : ℕ) (w : Walk) (l : i < levels m) (small : i < stage_count) (q : Midway m t (suc i) w.stages) where
    -- stage i is not ripe
    not-ripe : ripe c i (stage_at w.stages i) ≡ false → Midway m t i w.stages
    not-ripe e =
        record {
          above =
              λ j o b.
              elim (ℕ_discrete j (suc i)) [
                | yes d ↦ rw d (fit-later m (suc i) t _ (q.here (omega arith)))
                | no d ↦ q.above j (omega arith) b
              ];
          here = λ b. fit-unripe m i t _ (unripe-first i (stage_at w.stages i) e) (q.below i (omega arith) b);
          below = λ j o. q.below j (omega arith);
        }

    abbrev shorter : Walk
    shorter =
        record {
          stages = with_stage w.stages i (taken_off c.signature.key (stage_at w.stages i));
          answer = w.answer;
        }

    shorter-other : (j : ℕ) → (j ≡ i → ⊥) → stage_at shorter.stages j ≡ stage_at w.stages j
    shorter-other j n = stage-with-other w.stages i _ j n

    -- the first start of stage i is ripe
    first-ripe : ripe c i (stage_at w.stages i) ≡ true → Midway m t i (tried c (suc i) (stage_at w.stages i).first shorter).stages
    first-ripe e =
        let s : Stage = stage_at w.stages i in
        let f : Fit m i t t s = q.below i (omega arith) small in
        let listed : s.held ≡ 0 → ⊥ = eqb-false _ _ (not-true _ (and_left _ _ e)) in
        let due : s.first.at + prefix_length m (suc i) ≡ suc t = eqb-true _ _ (and_right (not (eqb s.held 0)) _ e) ∙ now in
        record {
          above =
              λ j o b.
              elim (ℕ_discrete j (suc i)) [
                | yes d ↦
                    rw d
                    (tried_here (suc i) s.first shorter l due (fit-print m i t t s f)
                    (rw (shorter-other (suc i) (omega arith)) (q.here (omega arith))))
                | no d ↦ rw (tried_other (suc i) j s.first shorter d, shorter-other j (omega arith)) (q.above j (omega arith) b)
              ];
          here =
              λ b.
              rw (tried_other (suc i) i s.first shorter (omega arith))
              (stage-with w.stages i _ (Fit m i t (suc t)) (idle refl) (fit-off m i t s c.signature.key listed due f));
          below =
              λ j o b.
              rw (tried_other (suc i) j s.first shorter (omega arith), shorter-other j (omega arith)) (q.below j (omega arith) b);
        }

    pub visited-midway : Midway m t i (visited c i w).stages
    unfolding visited
    visited-midway =
        by-test (ripe c i (stage_at w.stages i)) (λ e. rw (e, visited) (first-ripe e)) (λ e. rw (e, visited) (not-ripe e))

  descended-midway :
      (i : ℕ) (w : Walk) → i ≤ levels m → i ≤ stage_count → Midway m t i w.stages → Midway m t 0 (descended c i w).stages
  unfolding descended
  descended-midway zero w l b q = q
  descended-midway (suc i) w l b q = descended-midway i (visited c i w) (omega arith) (omega arith) (visited-midway i w l b q)

-- Behind the byte each stage of the walk fits, if it did before.
pub walked-fit :
    (c : Round) (start : Mark) (stages : Stages)
    → c.now.at ≡ suc start.at
    → 1 ≤ c.signature.length
    → c.signature.length ≤ max_length
    → Below start.print
    → ((i : ℕ) → i < stage_count → Fit c.signature.length i start.at start.at (stage_at stages i))
    → (i : ℕ)
    → i < stage_count
    → Fit c.signature.length i (suc start.at) (suc start.at) (stage_at (walked_from c start stages).stages i)
unfolding walked_from
walked-fit c start stages now long short print fit i l =
    let size : ℕ = c.signature.length in
    let t : ℕ = start.at in
    let begin : Walk = record { stages = stages; answer = no_answer } in
    let v : Walk = descended c (levels size) begin in
    let r : Midway size t 0 v.stages =
    descended-midway c t now (levels size) begin (omega arith) (levels-bound size short) (midway-begin size t stages fit)
    in
    elim (ℕ_discrete i 0) [
      | yes e ↦
          rw e
          (tried_here c t now 0 start v (omega arith) (omega (arith, first-length size long)) print
          (r.here (omega arith)))
      | no e ↦ rw (tried_other c t now 0 i start v e) (r.above i (omega arith) l)
    ]
