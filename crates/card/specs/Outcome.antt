-- What the program promises: the bytes that it hands to a write are the record of the card of the bytes that it read.
use Rattle.std.specs.Prelude.{ℕ, ◌≤◌, ◌≡◌, Result, Ok, Err, List, length, take}
use Rattle.fingerprint.specs.declared.Key.{Key}
use Rattle.refusal.specs.declared.Refusal.{Refusal}
use Rattle.refusal.specs.Number.{refusal_number}
use Rattle.signature.specs.Signature.{signature_of}
use Rattle.card_record.specs.Layout.{signature_record}
use Rattle.card_core.specs.Card.{card_refusal}
use Rattle.card.specs.declared.Made.{Made}
use Rattle.card.specs.declared.Failure.{Failure}
use Rattle.card.specs.declared.Failure.TheVariants.{Unreadable, Refused, Unwritable}

-- A passage was read to the front of the buffer `passage`, and its card put into the buffer `entry`, which is `exit` then: a read failed, and
-- nothing was written; or the card is refused, and nothing was written; or the record of the passage's card, the front of `exit`, was written, or
-- could not be.
pub data Carded (key : Key) (passage entry exit : List ℕ) (r : Result Made Failure) : Type 0 where
  unread : r ≡ Err Unreadable → Carded key passage entry exit r
  refused :
      (read : ℕ) (refusal : Refusal)
      → r ≡ Err (Refused read refusal)
      → read ≤ length passage
      → refusal_number refusal ≡ card_refusal key (take read passage) entry
      → Carded key passage entry exit r
  written :
      (made : Made)
      → r ≡ Ok made
      → made.read ≤ length passage
      → card_refusal key (take made.read passage) entry ≡ 0
      → take made.written exit ≡ signature_record (signature_of key (take made.read passage))
      → made.written ≡ length (signature_record (signature_of key (take made.read passage)))
      → Carded key passage entry exit r
  unwritten : r ≡ Err Unwritable → Carded key passage entry exit r
