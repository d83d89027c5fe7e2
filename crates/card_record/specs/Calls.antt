-- The calls that write and read a card's record: for each the number of its refusal, 0 where it is accepted, what it hands back and, of the
-- writer, the buffer as it leaves it (document 01, "Records" and "The board's refusals").
use Rattle.std.specs.Prelude.{ℕ, ◌+◌, Bool, cond, ◌&&◌, List, eqb}
use Rattle.ladder.specs.Prefix.{levels}
use Rattle.signature.specs.declared.Signature.{Signature}
use Rattle.signature.specs.Signature.{signature_fits, no_signature}
use Rattle.record.specs.Layout.{length_width, length_field, pattern_length}
use Rattle.record.specs.Calls.{before, put_refusal, put_used, put_buffer, head_refusal}
use Rattle.card_record.specs.Layout.{signature_kind, signature_length, signature_record, signature_at}

-- a card is written: "value handed in (10)"
abbrev pub card_judged : Signature → ℕ
card_judged s = cond (signature_fits s) 0 10

abbrev pub write_refusal : Signature → List ℕ → ℕ
write_refusal s entry = put_refusal (card_judged s) (signature_record s) entry

abbrev pub write_used : Signature → List ℕ → ℕ
write_used s entry = put_used (card_judged s) (signature_record s) entry

abbrev pub write_buffer : Signature → List ℕ → List ℕ
write_buffer s entry = put_buffer (card_judged s) (signature_record s) entry

-- "length .. under 10 for a card"
abbrev pub signature_least : ℕ
signature_least = 10

-- A card is read: ".. other 10", a length that does not suit k or a card that misfits.
abbrev pub signature_suits : List ℕ → Bool
signature_suits s = eqb (length_field s) (signature_length (levels (pattern_length s))) && signature_fits (signature_at s)

unfoldable pub read_refusal : List ℕ → ℕ
read_refusal s = before (head_refusal signature_kind signature_least s) (cond (signature_suits s) 0 10)

unfoldable pub read_signature : List ℕ → Signature
read_signature s = cond (eqb (read_refusal s) 0) (signature_at s) no_signature

-- "A reader says how many bytes it took".
unfoldable pub read_taken : List ℕ → ℕ
read_taken s = cond (eqb (read_refusal s) 0) (length_field s + length_width) 0
