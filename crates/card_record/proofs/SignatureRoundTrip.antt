-- A card that is no misfit is read back from its record, whatever stands behind it: accepted, the card itself, and the record's length.
-- Assumes nothing.
use Prim.Native.Nat.{ℕ, ◌+◌, ◌*◌, ◌≤◌, ◌<◌}
use mathlib.Core.Path.{◌≡◌, refl, sym, ◌∙◌, ap}
use mathlib.Core.Bool.{true}
use mathlib.Core.List.{List, [], ◌∷◌, ◌++◌}
use native.Mathlib.Nat.{lt_of_not-le}
use native.Mathlib.Decide.{dec_le}
use native.Mathlib.Omega.{arith}
use lib.ListN.{length, get_or, length-append}
use borrow.Author.Tests.{le-leb, lt-leb, eq-eqb}
use Rattle.fields.specs.Fields.{Field, values, widths, size, values_at}
use Rattle.fields.proofs.Laws.{fields_back}
use Rattle.fields.proofs.Gathered.{map-gathered, part-gathered}
use Rattle.fingerprint.specs.Fingerprint.{empty, key_numbers, print_numbers, key_of, print_of}
use Rattle.ladder.specs.Prefix.{levels}
use Rattle.lists.proofs.Laws.{tabulated}
use Rattle.signature.specs.declared.Signature.{Signature}
use Rattle.signature.specs.Signature.{places, no_signature, signature_fits}
use Rattle.signature.proofs.Card.{sound-card}
use Rattle.record.specs.Layout.{record_fields, print_fields_of, length_field, kind_of, pattern_length, key_from, print_count, print_position, part, print_from}
use Rattle.card_record.specs.Layout.{signature_kind, signature_body, signature_widths, signature_length, signature_record, signature_place, signature_from, signature_at}
use Rattle.card_record.specs.Calls.{read_refusal, read_signature, read_taken, signature_least}
use Rattle.record.proofs.Head.{head-accepted}
use Rattle.card_record.proofs.Fits.{card-fields}
use Rattle.card_record.proofs.Sizes.{signature-widths, signature-same, signature-size, signature-length-is}

-- The values of the record's fields make the card.
module _ (s : Signature) (fits : signature_fits s ≡ true) (sized : length s.prints ≡ places) where
  field_values : List ℕ
  field_values = values (record_fields (signature_body (levels s.length) s))

  print-made : (i : ℕ) → i ≤ levels s.length → print_from field_values i ≡ get_or s.prints i empty
  unfolding field_values print_from signature_body key_numbers print_numbers print_of
  print-made i l =
      let k : ℕ = levels s.length in
      let front : List ℕ = size (widths (signature_body k s)) ∷ signature_kind ∷ s.length ∷ key_numbers s.key in
      ap print_of
      (ap (λ (l : List ℕ). part (print_position + i * print_count) print_count (front ++ l))
      (map-gathered (λ (f : Field). f.value) (print_fields_of s.prints) (k + 1))
      ∙ part-gathered (λ i. values (print_fields_of s.prints i)) print_count (λ i. refl) front (k + 1) i _ (omega arith) refl)

  place-made : (i : ℕ) → i < places → get_or s.prints i empty ≡ signature_place field_values (levels s.length) i
  place-made i l =
      elim (dec_le i (levels s.length)) [
        | yes h ↦ rw (le-leb i (levels s.length) h) (sym (print-made i h))
        | no h ↦ rw (lt-leb i (levels s.length) (lt_of_not-le h)) ((sound-card s fits).past i l (lt_of_not-le h))
      ]

  card-made : signature_from (levels s.length) field_values ≡ s
  unfolding field_values key_from signature_body key_numbers key_of
  card-made =
      λ q.
      record {
        length = s.length;
        key = s.key;
        prints = sym (tabulated _ places empty s.prints sized place-made) q;
      }

module _ (s : Signature) (fits : signature_fits s ≡ true) (sized : length s.prints ≡ places) (tail : List ℕ) where
  values-back : values_at (signature_record s ++ tail) 0 (signature_widths (levels s.length)) ≡ field_values s fits sized
  unfolding field_values signature_widths
  values-back =
      let k : ℕ = levels s.length in
      ap (λ (ws : List ℕ). values_at (signature_record s ++ tail) 0 ws) (signature-widths k no_signature ∙ sym (signature-widths k s))
      ∙ fields_back [] (record_fields (signature_body k s)) tail (card-fields s fits)

  head-back :
      (length_field (signature_record s ++ tail) ≡ size (widths (signature_body (levels s.length) s)))
      × (kind_of (signature_record s ++ tail) ≡ signature_kind)
      × (pattern_length (signature_record s ++ tail) ≡ s.length)
  unfolding values_at signature_widths signature_body key_numbers field_values
  head-back = (
    ap (λ (l : List ℕ). get_or l 0 0) values-back,
    ap (λ (l : List ℕ). get_or l 1 0) values-back,
    ap (λ (l : List ℕ). get_or l 2 0) values-back,
  )

  signature-back : signature_at (signature_record s ++ tail) ≡ s
  unfolding signature_at
  signature-back =
      let bytes : List ℕ = signature_record s ++ tail in
      ap (λ (m : ℕ). signature_from (levels m) (values_at bytes 0 (signature_widths (levels m)))) head-back.2
      ∙ ap (signature_from (levels s.length)) values-back
      ∙ card-made s fits sized

  length_back : length_field (signature_record s ++ tail) ≡ signature_length (levels s.length)
  length_back = head-back.0 ∙ signature-same (levels s.length) s

  pub read-accepted : read_refusal (signature_record s ++ tail) ≡ 0
  unfolding read_refusal
  read-accepted =
      let bytes : List ℕ = signature_record s ++ tail in
      let n : ℕ = signature_length (levels s.length) in
      let size = length-append (signature_record s) tail in
      let long = signature-length-is (levels s.length) in
      rw (
        head-accepted signature_kind n signature_least bytes head-back.1 length_back (omega (arith, signature-size s)) (omega arith)
            (omega arith),
        length_back,
        head-back.2,
        eq-eqb n n refl,
        signature-back,
        fits,
      )

  pub read_back : read_signature (signature_record s ++ tail) ≡ s
  unfolding read_signature
  read_back = rw read-accepted signature-back

  pub read-took : read_taken (signature_record s ++ tail) ≡ length (signature_record s)
  unfolding read_taken
  read-took = rw (read-accepted, length_back) (sym (signature-size s))
