-- The card of a passage in a buffer: where its making is refused, and where it is written.
-- Assumes nothing.
use Prim.Native.Nat.{ℕ, ◌≤◌}
use mathlib.Core.Path.{◌≡◌, refl, sym}
use mathlib.Core.List.{List}
use native.Mathlib.Omega.{arith}
use lib.ListN.{length, take, length-append}
use lib.Seq.{take_at}
use borrow.Author.Tests.{ne_eqb}
use Rattle.fingerprint.specs.declared.Key.{Key}
use Rattle.signature.specs.declared.Signature.{Signature}
use Rattle.signature.specs.Signature.{signature_of}
use Rattle.card_record.specs.Layout.{signature_record}
use Rattle.card_record.specs.Calls.{write_refusal, write_used, write_buffer}
use Rattle.card_core.specs.Card.{make_refusal, made_signature, card_refusal, card_used, card_buffer}

module _ (key : Key) (passage entry : List ℕ) where
  pub not_made :
      (make_refusal key passage ≡ 0 → ⊥)
      → (make_refusal key passage ≡ card_refusal key passage entry) × (entry ≡ card_buffer key passage entry)
  unfolding card_buffer
  not_made n = let e = ne_eqb (make_refusal key passage) 0 n in rw (e, e) (refl, refl)

  pub made :
      (s : Signature)
      → make_refusal key passage ≡ 0
      → s ≡ made_signature key passage
      → (write_refusal s entry ≡ card_refusal key passage entry)
      × (write_used s entry ≡ card_used key passage entry)
      × (write_buffer s entry ≡ card_buffer key passage entry)
  unfolding card_used card_buffer made_signature
  made s z e = rw (e, z) (refl, refl, refl)

  -- where nothing is refused, the record stands at the buffer's front
  pub stands :
      (used : ℕ) (exit : List ℕ)
      → card_refusal key passage entry ≡ 0
      → used ≡ card_used key passage entry
      → exit ≡ card_buffer key passage entry
      → (take used exit ≡ signature_record (signature_of key passage))
      × (used ≡ length (signature_record (signature_of key passage)))
      × (used ≤ length exit)
  unfolding card_used card_buffer
  stands used exit z u e =
      let place = rw z at u in
      let whole = rw z at e in (
        rw whole (take_at (signature_record (signature_of key passage)) _ used (sym place)),
        place,
        rw (whole, length-append) (omega (arith, place)),
      )
