-- What judging one stage after another keeps.
-- Assumes nothing.
use Prim.Native.Nat.{ℕ, ◌+◌, ◌<◌}
use mathlib.Core.Path.{◌≡◌}
use mathlib.Core.Bool.{Bool, true, false, ◌&&◌, and-false}
use Rattle.fingerprint.specs.declared.Key.{Key}
use Rattle.lists.specs.Lists.{every}
use Rattle.lists.proofs.Cases.{by-test}
use Rattle.lists.proofs.Laws.{every-none, every_more, every-fails, and_left, and_right, and_both}
use Rattle.stage.specs.Stage.{stage_fits}
use Rattle.stage.specs.Stages.{stage_count, Stages, stage_at, fits_at, stages_fit, listed_from, all_from}

module _ (key : Key) (m t since : ℕ) (stages : Stages) where
  -- The stages below i fit, and list no start below the count.
  pub record Judged (i : ℕ) : Type 0 where
    pub fits : every (fits_at key m t stages) i ≡ true
    pub listed : every (λ j. listed_from since (stage_at stages j)) i ≡ true

  abbrev Test : ℕ → Bool → Type 0
  Test i b = (stage_fits key m i t (stage_at stages i) && listed_from since (stage_at stages i)) ≡ b

  pub judged-none : Judged 0
  judged-none = record { fits = every-none _; listed = every-none _ }

  pub judged-more : (i : ℕ) → Judged i → Test i true → Judged (i + 1)
  judged-more i q e =
      record {
        fits = every_more (fits_at key m t stages) i q.fits (and_left _ _ e);
        listed = every_more (λ j. listed_from since (stage_at stages j)) i q.listed (and_right (fits_at key m t stages i) _ e);
      }

  pub judged-fails : (i : ℕ) → i < stage_count → Test i false → (stages_fit key m t stages && all_from since stages) ≡ false
  judged-fails i l e =
      by-test (fits_at key m t stages i)
      (λ f. rw (every-fails (λ j. listed_from since (stage_at stages j)) stage_count i l (rw f at e)) (and-false (stages_fit key m t stages)))
      (λ f. rw (every-fails (fits_at key m t stages) stage_count i l f))

  pub judged-all : Judged stage_count → (stages_fit key m t stages && all_from since stages) ≡ true
  judged-all q = and_both q.fits q.listed
