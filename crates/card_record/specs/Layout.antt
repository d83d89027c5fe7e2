-- The layout of a card's record: a list of fields, written as their bytes, and read back from the fields' values (document 01, "Records").
use Rattle.std.specs.Prelude.{ℕ, ◌+◌, cond, List, ◌∷◌, ◌++◌, get_or, leb}
use Rattle.fields.specs.Fields.{Field, widths, size, bytes_of, values_at, gathered}
use Rattle.fingerprint.specs.declared.Fingerprint.{Fingerprint}
use Rattle.fingerprint.specs.Fingerprint.{empty}
use Rattle.ladder.specs.Prefix.{levels}
use Rattle.lists.specs.Lists.{tabulate}
use Rattle.signature.specs.declared.Signature.{Signature}
use Rattle.signature.specs.Signature.{places, no_signature}
use Rattle.record.specs.Layout.{kind_field, word, record_fields, key_fields, print_fields_of, pattern_length, m_position, key_from, print_from}

-- "Cards become kind 3" (document 02, A.4).
abbrev pub signature_kind : ℕ
signature_kind = 3

-- What follows the length field, for k stages: "m, r, the k + 1 fingerprints".
unfoldable pub signature_body : ℕ → Signature → List Field
signature_body k s =
    kind_field signature_kind ∷ word s.length ∷ key_fields s.key ++ gathered (print_fields_of s.prints) (k + 1)

abbrev pub signature_record : Signature → List ℕ
signature_record s = bytes_of (record_fields (signature_body (levels s.length) s))

-- The widths of its fields and what the length field says, for k stages: the same for every card.
unfoldable pub signature_widths : ℕ → List ℕ
signature_widths k = widths (record_fields (signature_body k no_signature))

unfoldable pub signature_length : ℕ → ℕ
signature_length k = size (widths (signature_body k no_signature))

-- The card that the values of a card's record with k stages make: 0 past P_k.
abbrev pub signature_place : List ℕ → ℕ → ℕ → Fingerprint
signature_place values k i = cond (leb i k) (print_from values i) empty

abbrev pub signature_from : ℕ → List ℕ → Signature
signature_from k values =
    record {
      length = get_or values m_position 0;
      key = key_from values;
      prints = tabulate (signature_place values k) places;
    }

unfoldable pub signature_at : List ℕ → Signature
signature_at s = signature_from (levels (pattern_length s)) (values_at s 0 (signature_widths (levels (pattern_length s))))
