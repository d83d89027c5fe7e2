-- What the card reader's tests decide: of the verdict's number, the card handed back and the bytes taken.
-- Assumes nothing.
use Prim.Native.Nat.{ℕ, ◌+◌}
use mathlib.Core.Path.{◌≡◌, refl}
use mathlib.Core.Bool.{true, false}
use mathlib.Core.List.{List}
use borrow.Author.Tests.{ne_eqb}
use Rattle.signature.specs.declared.Signature.{Signature}
use Rattle.record.specs.Layout.{length_width, length_field}
use Rattle.record.specs.Calls.{head_refusal}
use Rattle.card_record.specs.Layout.{signature_kind, signature_at}
use Rattle.card_record.specs.Calls.{signature_least, signature_suits, read_refusal, read_signature, read_taken}

module _ (s : List ℕ) where
  pub unread-at : (n : ℕ) → n ≡ head_refusal signature_kind signature_least s → (n ≡ 0 → ⊥) → n ≡ read_refusal s
  unfolding read_refusal
  unread-at n e h = rw (← e, ne_eqb n 0 h)

  pub unsuited : 0 ≡ head_refusal signature_kind signature_least s → signature_suits s ≡ false → 10 ≡ read_refusal s
  unfolding read_refusal
  unsuited e h = rw (← e, h)

  pub read_whole :
      (taken : ℕ) (card : Signature)
      → 0 ≡ head_refusal signature_kind signature_least s
      → signature_suits s ≡ true
      → card ≡ signature_at s
      → taken ≡ length_field s + length_width
      → (0 ≡ read_refusal s) × ((card ≡ read_signature s) × (taken ≡ read_taken s))
  unfolding read_refusal read_signature read_taken
  read_whole taken card e h ec et = rw (← e, h) (refl, (ec, et))
