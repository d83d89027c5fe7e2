-- What a byte brings to a watch that shares its key, t and F_t with others: it is refused, passes quietly, or the stages are visited.
-- Assumes nothing.
use Prim.Native.Nat.{ℕ, suc}
use mathlib.Core.Path.{◌≡◌, sym, ◌∙◌, ap}
use mathlib.Core.Bool.{true, false, and-true}
use mathlib.Core.List.{[], ◌∷◌}
use native.Mathlib.Omega.{arith}
use lib.Dec.{leb, eqb}
use lib.ListN.{get_or}
use borrow.Author.Tests.{le-leb}
use Rattle.fingerprint.specs.declared.Key.{Key}
use Rattle.fingerprint.specs.Fingerprint.{same_key, empty}
use Rattle.fingerprint.proofs.Laws.{same-key-eq, same-key-self}
use Rattle.lists.proofs.Cases.{Each, each, by-test}
use Rattle.lists.proofs.Laws.{every-intro}
use Rattle.stage.specs.Stages.{stage_count, Stages, stage_at, all_from}
use Rattle.walk.specs.Walk.{no_answer, compared}
use Rattle.walk.specs.Quiet.{is_first}
use Rattle.matcher.specs.declared.Matcher.{Matcher}
use Rattle.matcher.specs.Matcher.{matcher_fits}
use Rattle.matcher.specs.Stroke.{walked, stroke_refusal, stroke_answer, after_stroke}
use Rattle.matcher.specs.Shared.{shared_fits, shared_refusal, shared_answer, shared_stages}
use Rattle.matcher.proofs.Sound.{after-taken, answer-taken, taken-fits, taken-below}
use Rattle.matcher.proofs.Quiet.{Calm, quiet-answer, quiet-after}

-- no start is below 0
all-from-none : (l : Stages) → all_from 0 l ≡ true
all-from-none l =
    every-intro _ stage_count
    (λ i h.
    by-test (eqb (stage_at l i).held 0) (λ e. rw e)
    (λ e. rw (e, le-leb 0 (stage_at l i).first.at (omega arith), le-leb 0 (stage_at l i).last.at (omega arith))))

-- A watch by itself is one that shares its own key since the begin.
pub shared-lone : (w : Matcher) → shared_fits w.signature.key 0 w ≡ matcher_fits w
shared-lone w =
    rw (same-key-self w.signature.key, le-leb 0 w.now.at (omega arith), all-from-none w.stages) (and-true (matcher_fits w))

module _ (key : Key) (since : ℕ) (w : Matcher) (fits : shared_fits key since w ≡ true) where
  tests : Each (same_key w.signature.key key ∷ leb since w.now.at ∷ matcher_fits w ∷ all_from since w.stages ∷ [])
  tests = each (same_key w.signature.key key) (leb since w.now.at ∷ matcher_fits w ∷ all_from since w.stages ∷ []) fits

  -- What fits among the others: its key is theirs, and it is no misfit.
  pub shared-key : w.signature.key ≡ key
  shared-key = same-key-eq _ _ tests.0

  pub shared-own : matcher_fits w ≡ true
  shared-own = tests.1.1.0

-- Its refusals are the watch's own.
pub lone-refusal : (w : Matcher) → shared_refusal w.signature.key 0 w ≡ stroke_refusal w
lone-refusal w = rw (shared-lone w)

-- A byte that is taken brings what the watch's own stroke brings.
module _ (key : Key) (since : ℕ) (w : Matcher) (accepted : shared_refusal key since w ≡ 0) where
  pub taken-shared : shared_fits key since w ≡ true
  taken-shared =
      by-test (shared_fits key since w) (λ f. f) (λ f. absurd (let ten : ◌≡◌ {A = ℕ} 10 0 = rw f at accepted in omega arith))

  pub taken-own : stroke_refusal w ≡ 0
  taken-own = rw (shared-own key since w taken-shared) (rw taken-shared at accepted)

  module _ (byte : ℕ) where
    stages-own : shared_stages key since w byte ≡ (after_stroke w byte).stages
    unfolding shared_stages
    stages-own = rw accepted

    answer-own : shared_answer key since w byte ≡ stroke_answer w byte
    unfolding shared_answer
    answer-own = rw accepted

    pub stages-walked : (walked w byte).stages ≡ shared_stages key since w byte
    stages-walked = ap (λ (v : Matcher). v.stages) (sym (after-taken w byte taken-own)) ∙ sym stages-own

    pub answer-walked : (walked w byte).answer ≡ shared_answer key since w byte
    answer-walked = sym (answer-taken w byte taken-own) ∙ sym answer-own

    -- No start is ripe, and the byte is not P_0.
    module _ (calm : Calm w (suc w.now.at)) (other : is_first (get_or w.signature.prints 0 empty) byte ≡ false) where
      own-fits : matcher_fits w ≡ true
      own-fits = taken-fits w taken-own

      pub stages-quiet : w.stages ≡ shared_stages key since w byte
      stages-quiet =
          ap (λ (v : Matcher). v.stages) (sym (quiet-after w byte own-fits (taken-below w taken-own) calm other)) ∙ sym stages-own

      pub answer-quiet : compared no_answer ≡ shared_answer key since w byte
      answer-quiet = sym (quiet-answer w byte own-fits (taken-below w taken-own) calm other) ∙ sym answer-own
