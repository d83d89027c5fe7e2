-- How long a card's record is: 14 + 4(k+1) bytes in all, at most 98.
-- Assumes nothing.
use Prim.Native.Nat.{ℕ, ◌+◌, ◌*◌, ◌≤◌}
use mathlib.Core.Path.{◌≡◌, refl, ◌∙◌, ap}
use mathlib.Core.Bool.{true}
use mathlib.Core.List.{List, ◌∷◌, ◌++◌}
use native.Mathlib.Omega.{arith}
use lib.ListN.{length}
use Rattle.fields.specs.Fields.{Field, widths, size, gathered}
use Rattle.fields.proofs.Gathered.{map-gathered, size-gathered}
use Rattle.fingerprint.specs.Fingerprint.{empty, key_numbers, print_numbers, no_key}
use Rattle.ladder.specs.Prefix.{levels}
use Rattle.ladder.proofs.Levels.{levels-bound}
use Rattle.signature.specs.declared.Signature.{Signature}
use Rattle.signature.specs.Signature.{signature_fits, no_signature}
use Rattle.signature.proofs.Card.{sound-card}
use Rattle.record.proofs.Sizes.{record-size}
use Rattle.record.specs.Layout.{kind_width, word_width, length_width, record_fields, key_fields, print_fields, print_fields_of}
use Rattle.record.specs.Places.{print_size, print_place}
use Rattle.card_record.specs.Layout.{signature_body, signature_record, signature_length}
use Rattle.card_record.specs.Places.{longest_signature}

-- What stands before a card's fingerprints, and the widths of one of them.
abbrev pub signature_front : List ℕ
signature_front = length_width ∷ kind_width ∷ word_width ∷ widths (key_fields no_key)

abbrev pub print_widths : ℕ → List ℕ
print_widths i = widths (print_fields empty)

-- The widths are the same for every card.
pub signature-widths :
    (k : ℕ) (s : Signature) → widths (record_fields (signature_body k s)) ≡ signature_front ++ gathered print_widths (k + 1)
unfolding signature_body key_numbers print_numbers
signature-widths k s =
    ap (λ (l : List ℕ). signature_front ++ l) (map-gathered (λ (f : Field). f.width) (print_fields_of s.prints) (k + 1))

-- "Length 10 + 4(k+1)": with the length field, as the code has it.
pub signature-length : (k : ℕ) (s : Signature) → length_width + size (widths (signature_body k s)) ≡ print_place + print_size * (k + 1)
unfolding size key_numbers print_numbers
signature-length k s =
    ap size (signature-widths k s) ∙ omega (arith, size-gathered print_widths print_size (λ i. refl) (k + 1))

-- The length field is the same for every card.
pub signature-same : (k : ℕ) (s : Signature) → size (widths (signature_body k s)) ≡ signature_length k
unfolding signature_length
signature-same k s = omega (arith, signature-length k s, signature-length k no_signature)

-- "Length (4 bytes) of what follows it": the record is 4 bytes longer than its length field says.
pub signature-size : (s : Signature) → length (signature_record s) ≡ signature_length (levels s.length) + length_width
signature-size s =
    let k : ℕ = levels s.length in
    record-size (signature_body k s) ∙ ap (λ (n : ℕ). n + length_width) (signature-same k s)

-- "Length 10 + 4(k+1)"
pub signature-length-is : (k : ℕ) → signature_length k ≡ 10 + 4 * (k + 1)
unfolding signature_length
signature-length-is k = omega (arith, signature-length k no_signature)

-- "98 bytes, the longest card record"
pub signature-at-most : (s : Signature) → signature_fits s ≡ true → length (signature_record s) ≤ longest_signature
signature-at-most s h =
    omega (arith, signature-size s, signature-length-is (levels s.length), levels-bound s.length (sound-card s h).short)
