-- A card made from a whole passage (document 01, "Card"): the refusals of its begin, and else the passage's own card.
use Rattle.std.specs.Prelude.{ℕ, ◌+◌, cond, List, ◌++◌, length, drop, eqb}
use Rattle.fingerprint.specs.declared.Key.{Key}
use Rattle.signature.specs.declared.Signature.{Signature}
use Rattle.signature.specs.Signature.{max_length, no_signature, signature_of}
use Rattle.signature.specs.Calls.{begin_refusal}
use Rattle.record.specs.Calls.{before}
use Rattle.card_record.specs.Layout.{signature_record}
use Rattle.card_record.specs.Calls.{write_refusal}

-- One more than the longest passage.
abbrev pub overlong : ℕ
overlong = max_length + 1

-- 1 empty, 2 overlong, 3 key
abbrev pub make_refusal : Key → List ℕ → ℕ
make_refusal key passage = begin_refusal (length passage) key

unfoldable pub made_signature : Key → List ℕ → Signature
made_signature key passage = cond (eqb (make_refusal key passage) 0) (signature_of key passage) no_signature

-- The card of a passage is written into the front of a buffer: the refusals of making it, then those of writing it.
abbrev pub card_refusal : Key → List ℕ → List ℕ → ℕ
card_refusal key passage entry = before (make_refusal key passage) (write_refusal (signature_of key passage) entry)

unfoldable pub card_used : Key → List ℕ → List ℕ → ℕ
card_used key passage entry =
    cond (eqb (card_refusal key passage entry) 0) (length (signature_record (signature_of key passage))) 0

unfoldable pub card_buffer : Key → List ℕ → List ℕ → List ℕ
card_buffer key passage entry =
    cond (eqb (card_refusal key passage entry) 0)
    (signature_record (signature_of key passage) ++ drop (length (signature_record (signature_of key passage))) entry)
    entry
