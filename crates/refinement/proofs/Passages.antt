-- A passage's own card gives the verdicts that the passage itself gives, so its watch answers as the ladder over the passage does.
-- Assumes nothing.
use Prim.Native.Nat.{ℕ, ◌+◌, ◌≤◌, ◌<◌}
use mathlib.Core.Path.{◌≡◌, refl, ◌∙◌, ap}
use mathlib.Core.Bool.{true}
use mathlib.Core.List.{List, [], ◌∷◌, ◌++◌}
use native.Mathlib.Omega.{arith}
use lib.ListN.{length, length-append}
use Rattle.fingerprint.specs.declared.Key.{Key}
use Rattle.fingerprint.specs.declared.Fingerprint.{Fingerprint}
use Rattle.fingerprint.specs.Fingerprint.{same, fp}
use Rattle.ladder.specs.Prefix.{block, prefix_length}
use Rattle.ladder.specs.Ladder as ladder
use Rattle.ladder.proofs.Verdicts.{SameVerdicts, after_same, answer-same}
use Rattle.signature.specs.declared.Signature.{Signature}
use Rattle.signature.specs.Signature.{max_length, signature_fits, signature_of}
use Rattle.signature.proofs.Card.{sound-card, card-prints}
use Rattle.stage.specs.Stage.{max_taken}
use Rattle.refinement.specs.Refinement.{passage_tests, card_tests, Refines}
use Rattle.refinement.proofs.Refines.{refines}

module _ (key : Key) (p : List ℕ) (short : length p ≤ max_length) (h : List ℕ) where
  verdicts : SameVerdicts (card_tests (signature_of key p)) (passage_tests key p) h
  unfolding signature_of
  verdicts =
      record {
        size = refl;
        matches =
            λ i s k l.
            ap (λ (f : Fingerprint). same (fp key (block h s (prefix_length (length p) i))) f) (card-prints key p short i k);
        alike = λ s u n a b. refl;
      }

  -- The ladder lists and answers the same with either.
  pub stages-by-card :
      (t : ℕ) → t ≤ length h → ladder.after (card_tests (signature_of key p)) h t ≡ ladder.after (passage_tests key p) h t
  stages-by-card = after_same _ _ h verdicts

  pub answers-by-card :
      (t : ℕ) → t ≤ length h → ladder.answer_at (card_tests (signature_of key p)) h t ≡ ladder.answer_at (passage_tests key p) h t
  answers-by-card = answer-same _ _ h verdicts

-- The card of a passage, if it is no misfit.
module _ (key : Key) (p : List ℕ) (card : Signature) (own : card ≡ signature_of key p) (card-fits : signature_fits card ≡ true) where
  short : length p ≤ max_length
  unfolding signature_of
  short = (sound-card (signature_of key p) (rw own at card-fits)).short

  pub passage-refines : (h : List ℕ) (b : ℕ) → length h < max_taken → Refines card (passage_tests key p) h b
  passage-refines h b l =
      let q = refines card card-fits h b l in
      let within : length h + 1 ≤ length (h ++ b ∷ []) = rw (length-append h (b ∷ [])) (omega arith) in
      record {
        accepted = q.accepted;
        watch = q.watch;
        answer = q.answer ∙ rw own (answers-by-card key p short (h ++ b ∷ []) (length h + 1) within);
      }
