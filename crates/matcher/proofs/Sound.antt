-- What it says of a watch that it is no misfit, and what becomes of one whose byte is taken.
-- Assumes nothing.
use Prim.Native.Nat.{ℕ, ◌≤◌, ◌<◌}
use mathlib.Core.Path.{◌≡◌}
use mathlib.Core.Bool.{true}
use mathlib.Core.List.{[], ◌∷◌}
use native.Mathlib.Omega.{arith}
use lib.Dec.{ltb}
use borrow.Author.Tests.{ltb-true}
use Rattle.fingerprint.specs.Fingerprint.{Below, empty}
use Rattle.lists.proofs.Laws.{every-at, every-intro}
use Rattle.lists.proofs.Cases.{by-test, each}
use Rattle.signature.specs.Signature.{signature_fits}
use Rattle.signature.proofs.Card.{SoundCard, sound-card}
use Rattle.stage.specs.Stage.{max_taken, now_fits, next_mark}
use Rattle.stage.specs.Stages.{stage_count, stage_at, stages_fit, shapes_fit}
use Rattle.stage.proofs.Fit.{Fit, fits-of}
use Rattle.stage.proofs.Follows.{Follows, shape_of, last_of, stage-fits}
use Rattle.stage.proofs.Now.{SoundNow, sound-now, now-fits}
use Rattle.matcher.specs.declared.Matcher.{Matcher}
use Rattle.matcher.specs.Matcher.{matcher_fits, moved}
use Rattle.matcher.specs.Stroke.{walked, stroke_refusal, stroke_answer, after_stroke}

-- What a watch that is no misfit says of itself.
pub record Sound (w : Matcher) : Type 0 where
  pub card : signature_fits w.signature ≡ true
  pub within : w.now.at ≤ max_taken
  pub print : Below w.now.print
  pub starts : w.now.at ≡ 0 → w.now.print ≡ empty
  pub stage : (i : ℕ) → i < stage_count → Fit w.signature.length i w.now.at w.now.at (stage_at w.stages i)
  pub follows : (i : ℕ) → i < stage_count → Follows w.signature.key (stage_at w.stages i)

pub sound : (w : Matcher) → matcher_fits w ≡ true → Sound w
unfolding matcher_fits
sound w e =
    let q =
    each (signature_fits w.signature)
    (now_fits w.now ∷ stages_fit w.signature.key w.signature.length w.now.at w.stages ∷ [])
    e
    in
    let n : SoundNow w.now = sound-now _ q.1.0 in
    record {
      card = q.0;
      within = n.within;
      print = n.print;
      starts = n.starts;
      stage = λ i l. shape_of _ _ _ i _ (every-at _ stage_count q.1.1.0 i l);
      follows = λ i l. last_of _ _ _ i _ (every-at _ stage_count q.1.1.0 i l);
    }

-- What its card says of itself.
pub card-of : {w : Matcher} → Sound w → SoundCard w.signature
card-of q = sound-card _ q.card

pub stages-fit : (w : Matcher) → Sound w → stages_fit w.signature.key w.signature.length w.now.at w.stages ≡ true
stages-fit w q = every-intro _ stage_count (λ i l. stage-fits _ _ _ i _ (q.stage i l) (q.follows i l))

pub shapes-fit : (w : Matcher) → Sound w → shapes_fit w.signature.length w.now.at w.stages ≡ true
shapes-fit w q = every-intro _ stage_count (λ i l. fits-of _ i _ _ (q.stage i l))

pub sound-fits : (w : Matcher) → Sound w → matcher_fits w ≡ true
unfolding matcher_fits
sound-fits w q =
    rw (
      q.card,
      now-fits w.now (record { within = q.within; print = q.print; starts = q.starts }),
      stages-fit w q,
    )

pub taken-fits : (w : Matcher) → stroke_refusal w ≡ 0 → matcher_fits w ≡ true
taken-fits w e =
    by-test (matcher_fits w) (λ f. f) (λ f. absurd (let ten : ◌≡◌ {A = ℕ} 10 0 = rw f at e in omega arith))

-- a byte is taken below the limit
pub taken-below : (w : Matcher) → stroke_refusal w ≡ 0 → w.now.at < max_taken
taken-below w e =
    by-test (ltb w.now.at max_taken) (λ l. ltb-true _ _ l)
    (λ l. absurd (let six : ◌≡◌ {A = ℕ} 6 0 = rw (taken-fits w e, l) at e in omega arith))

pub after-taken :
    (w : Matcher) (b : ℕ)
    → stroke_refusal w ≡ 0
    → after_stroke w b ≡ moved w (next_mark w.signature.key w.now b) (walked w b).stages
unfolding after_stroke
after-taken w b e = rw (e, after_stroke)

pub answer-taken : (w : Matcher) (b : ℕ) → stroke_refusal w ≡ 0 → stroke_answer w b ≡ (walked w b).answer
unfolding stroke_answer
answer-taken w b e = rw (e, stroke_answer)
