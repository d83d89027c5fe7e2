-- What the checkpoint reader's tests decide: of the verdict's number, the matcher handed back and the bytes taken.
-- Assumes nothing.
use Prim.Native.Nat.{ℕ, ◌+◌}
use mathlib.Core.Path.{◌≡◌, refl}
use mathlib.Core.Bool.{true, false}
use mathlib.Core.List.{List}
use borrow.Author.Tests.{ne_eqb}
use Rattle.signature.specs.declared.Signature.{Signature}
use Rattle.signature.specs.Signature.{signature_fits}
use Rattle.matcher.specs.declared.Matcher.{Matcher}
use Rattle.checkpoint_format.specs.declared.Format.{Format}
use Rattle.record.specs.Layout.{length_width, length_field}
use Rattle.record.specs.Calls.{head_refusal}
use Rattle.checkpoint_format.specs.Layout.{checkpoint_kind}
use Rattle.checkpoint_format.specs.Calls.{checkpoint_least}
use Rattle.checkpoint_restore.specs.Layout.{same_pattern, matcher_at}
use Rattle.checkpoint_restore.specs.Calls.{format_of, checkpoint_suits, restore_refusal, restored_matcher, restore_taken}

-- The head is asked for the kind and the least length of the format that its kind says.
pub head-asked :
    (s : List ℕ) {f : Format} {kind least n : ℕ}
    → f ≡ format_of s
    → kind ≡ checkpoint_kind f
    → least ≡ checkpoint_least f
    → n ≡ head_refusal kind least s
    → n ≡ head_refusal (checkpoint_kind (format_of s)) (checkpoint_least (format_of s)) s
head-asked s ef ek el h = rw (← ef, ← ek, ← el) h

module _ (card : Signature) (s : List ℕ) where
  pub card-misfits : signature_fits card ≡ false → 10 ≡ restore_refusal card s
  unfolding restore_refusal
  card-misfits e = rw e

  module _ (fits : signature_fits card ≡ true) where
    pub unrestored-at :
        (n : ℕ)
        → n ≡ head_refusal (checkpoint_kind (format_of s)) (checkpoint_least (format_of s)) s
        → (n ≡ 0 → ⊥)
        → n ≡ restore_refusal card s
    unfolding restore_refusal
    unrestored-at n e h = rw (fits, ← e, ne_eqb n 0 h)

    module _ (head : 0 ≡ head_refusal (checkpoint_kind (format_of s)) (checkpoint_least (format_of s)) s) where
      pub other-pattern : same_pattern (format_of s) card s ≡ false → 11 ≡ restore_refusal card s
      unfolding restore_refusal
      other-pattern e = rw (fits, ← head, e)

      pub not-suited : same_pattern (format_of s) card s ≡ true → checkpoint_suits card s ≡ false → 10 ≡ restore_refusal card s
      unfolding restore_refusal
      not-suited e h = rw (fits, ← head, e, h)

      pub restore-whole :
          (taken : ℕ) (w : Matcher)
          → same_pattern (format_of s) card s ≡ true
          → checkpoint_suits card s ≡ true
          → w ≡ matcher_at (format_of s) card s
          → taken ≡ length_field s + length_width
          → (0 ≡ restore_refusal card s) × ((w ≡ restored_matcher card s) × (taken ≡ restore_taken card s))
      unfolding restore_refusal restored_matcher restore_taken
      restore-whole taken w e h ew et = rw (fits, ← head, e, h) (refl, (ew, et))
