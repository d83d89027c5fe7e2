-- The laws of reaching a stage by its number and of putting another there.
-- Assumes nothing.
use Prim.Native.Nat.{ℕ, ◌≤◌, ◌<◌}
use mathlib.Core.Path.{◌≡◌, sym, ◌∙◌, ap}
use native.Mathlib.Decide.{dec_lt}
use native.Mathlib.Omega.{arith}
use lib.ListN.{length, length-set, length-replicate, get_or-replicate, get_or-eq_default}
use lib.Seq.{get_or-set_same, get_or-set_other, set_out, ext_get_or}
use Rattle.lists.proofs.Laws.{length-tabulate, get_d_tabulate}
use Rattle.stage.specs.declared.Stage.{Stage}
use Rattle.stage.specs.Stage.{no_stage}
use Rattle.stage.specs.Stages.{stage_count, Stages, Whole, stage_at, with_stage, stages_of, no_stages}

module _ (l : Stages) (i : ℕ) (s : Stage) where
  pub stage-with-same : Whole l → i < stage_count → stage_at (with_stage l i s) i ≡ s
  stage-with-same w h = get_or-set_same l i s no_stage (omega arith)

  pub stage-with-other : (j : ℕ) → (j ≡ i → ⊥) → stage_at (with_stage l i s) j ≡ stage_at l j
  stage-with-other j n = get_or-set_other l i j s no_stage n

  pub whole_with : Whole l → Whole (with_stage l i s)
  whole_with w = length-set l i s ∙ w

  -- what holds of the stage put there, and of one that lists nothing, holds of what is read there
  pub stage-with : (P : Stage → Type 0) → P no_stage → P s → P (stage_at (with_stage l i s) i)
  stage-with P none some =
      elim (dec_lt i (length l)) [
        | yes a ↦ rw (get_or-set_same l i s no_stage a) some
        | no a ↦
            rw (ap (λ (u : Stages). stage_at u i) (set_out l i s (omega arith)) ∙ get_or-eq_default l no_stage {n = i} (omega arith))
            none
      ]

-- there is no stage past the last place
pub stage-past : (l : Stages) (i : ℕ) → Whole l → stage_count ≤ i → stage_at l i ≡ no_stage
stage-past l i w h = get_or-eq_default l no_stage {n = i} (omega arith)

-- stages that are the same at each number are the same
pub stages-same : (l k : Stages) → Whole l → Whole k → ((i : ℕ) → i < stage_count → stage_at l i ≡ stage_at k i) → l ≡ k
stages-same l k u w e = ext_get_or no_stage l k (u ∙ sym w) (λ i h. e i (omega arith))

-- stages made of one for each number
pub whole_of : (f : ℕ → Stage) → Whole (stages_of f)
whole_of f = length-tabulate f stage_count

pub stage-of : (f : ℕ → Stage) (i : ℕ) → i < stage_count → stage_at (stages_of f) i ≡ f i
stage-of f i h = get_d_tabulate f stage_count i no_stage h

pub whole-none : Whole no_stages
whole-none = length-replicate stage_count no_stage

pub no-stage-at : (i : ℕ) → stage_at no_stages i ≡ no_stage
no-stage-at i =
    elim (dec_lt i stage_count) [
      | yes h ↦ get_or-replicate stage_count i no_stage no_stage h
      | no h ↦ stage-past no_stages i whole-none (omega arith)
    ]
