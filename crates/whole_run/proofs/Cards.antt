-- A card made from a passage, or read from the record of such a card, is the passage's own and no misfit.
-- Assumes nothing.
use Prim.Native.Nat.{ℕ}
use mathlib.Core.Path.{◌≡◌}
use mathlib.Core.List.{List}
use lib.ListN.{length}
use Rattle.fingerprint.specs.declared.Key.{Key}
use Rattle.lists.proofs.Laws.{length-tabulate}
use Rattle.signature.specs.declared.Signature.{Signature}
use Rattle.signature.specs.Signature.{places, signature_of}
use Rattle.made_from.specs.MadeFrom.{MadeSignature}
use Rattle.made_from.proofs.Made.{made-card}
use Rattle.card_record.specs.Layout.{signature_record}
use Rattle.card_record.specs.Calls.{card_judged, read_refusal, read_signature}
use Rattle.card_record.proofs.SignatureRoundTrip as round_trip
use Rattle.whole_run.specs.Run.{BeginsWith, CardOf, made, read_back}
use Rattle.whole_run.proofs.Buffers.{begins-rest, put_front}

sized : (key : Key) (p : List ℕ) (card : Signature) → card ≡ signature_of key p → length card.prints ≡ places
unfolding signature_of
sized key p card e = rw e (length-tabulate _ places)

-- The record of such a card is not refused, and hands the card back.
pub same-card :
    {key : Key} {p : List ℕ} {card : Signature}
    → MadeSignature key p card
    → (buffer : List ℕ)
    → BeginsWith (signature_record card) buffer
    → (read_refusal buffer ≡ 0) × (read_signature buffer ≡ card)
same-card {key} {p} {card} m buffer b =
    let n = sized key p card m.state in
    rw (begins-rest (signature_record card) buffer b)
    (round_trip.read-accepted card m.fits n _, round_trip.read_back card m.fits n _)

pub card-of : {key : Key} {p : List ℕ} {card : Signature} → CardOf key p card → MadeSignature key p card
card-of (made m) = made-card m
card-of (read_back {card} c lent e buffer b read) =
    let m = card-of c in
    rw (same-card m buffer (rw (put_front (card_judged card) (signature_record card) lent e) at b)).1 m
