-- Where quantities and events of a track stand: they end behind their place and inside the track, a message behind its data bytes, whose
-- first is below 128; two stand right before its end.
-- Assumes nothing.
use Prim.Native.Nat.{ℕ, zero, suc, ◌+◌, ◌-◌, ◌*◌, ◌≤◌, ◌<◌}
use mathlib.Core.Path.{◌≡◌, refl, subst}
use mathlib.Core.Bool.{true, ◌&&◌, ◌||◌}
use mathlib.Core.List.{List}
use native.Mathlib.Omega.{arith}
use lib.Dec.{eqb, leb, ltb}
use lib.ListN.{length}
use borrow.Author.Tests.{ltb-true, leb-true, eqb-true, leb-false}
use Rattle.std.proofs.Common.{Option, Some, None}
use Rattle.lists.proofs.Laws.{and_left, and_right}
use Rattle.lists.proofs.Cases.{either}
use Rattle.midi_file.specs.declared.event.Quantity.{Quantity}
use Rattle.midi_file.specs.declared.event.Event.{Event}
use Rattle.midi_file.specs.declared.event.Event.TheVariants.{Message, Exclusive, Meta}
use Rattle.midi_file.specs.declared.event.Placed.{Placed}
use Rattle.midi_file.specs.File.{byte}
use Rattle.midi_file.specs.Track.{quantity_from, quantity_at, data_count, is_data, message_at, block_from, block_at}
use Rattle.midi_file.specs.Track.{exclusive_of, meta_of, meta_at, event_at}

-- what is read behind a place, if it is a quantity, ends behind it and inside the track
abbrev pub QuantityEnds : List ℕ → ℕ → Option Quantity → Type 0
QuantityEnds track from (Some q) = (from < q.behind) × (q.behind ≤ length track)
QuantityEnds track from None = Unit {0}

-- the bytes that an event has at least, and the first data byte of a message
abbrev pub least_bytes : Event → ℕ
least_bytes (Message status first second) = data_count status
least_bytes Exclusive = 1
least_bytes (Meta type n) = 1

abbrev pub first_data : Event → ℕ
first_data (Message status first second) = first
first_data Exclusive = 0
first_data (Meta type n) = 0

-- the data bytes of a message that has two stand right before its end
abbrev pub DataStand : List ℕ → Event → ℕ → Type 0
DataStand track (Message status first second) end =
    data_count status ≡ 2
    → (at : ℕ) × (end ≡ at + 2) × (byte track at ≡ first) × (byte track (at + 1) ≡ second)
DataStand track Exclusive end = Unit {0}
DataStand track (Meta type n) end = Unit {0}

-- An event stands behind a place of a track.
pub record Stands (track : List ℕ) (from : ℕ) (placed : Placed) : Type 0 where
  pub behind : from + least_bytes placed.event ≤ placed.end
  pub within : placed.end ≤ length track
  pub small : first_data placed.event < 128
  pub two : DataStand track placed.event placed.end

abbrev pub StepStands : List ℕ → ℕ → Option Placed → Type 0
StepStands track from (Some placed) = Stands track from placed
StepStands track from None = Unit {0}

-- how many data bytes a message has, and how many bytes an event
data-count : (status : ℕ) → (1 ≤ data_count status) × (data_count status ≤ 2)
data-count status =
    either (λ (n : ℕ). (1 ≤ n) × (n ≤ 2)) (leb 192 status && ltb status 224) (λ _. omega arith) (λ _. omega arith)

some_bytes : (event : Event) → 1 ≤ least_bytes event
some_bytes (Message status first second) = (data-count status).0
some_bytes Exclusive = omega arith
some_bytes (Meta type n) = omega arith

module _ (track : List ℕ) where
  -- a data byte stands inside the track, and is below 128
  pub data-inside : (at : ℕ) → is_data track at ≡ true → at < length track
  data-inside at h = ltb-true at (length track) (and_left _ _ h)

  data-small : (at : ℕ) → is_data track at ≡ true → byte track at < 128
  data-small at h = ltb-true (byte track at) 128 (and_right (ltb at (length track)) _ h)

  pub quantity-ends : (left value from at : ℕ) → from ≤ at → QuantityEnds track from (quantity_from left value track at)
  unfolding quantity_from
  quantity-ends zero value from at f = tt
  quantity-ends (suc left) value from at f =
      either (QuantityEnds track from) (leb (length track) at) (λ _. tt)
      (λ h. either (QuantityEnds track from) (ltb (byte track at) 128)
      (λ _. omega (arith, leb-false (length track) at h))
      (λ _. quantity-ends left (128 * value + (byte track at - 128)) from (suc at) (omega arith)))

  module _ (from : ℕ) where
    block-ends : (q : Option Quantity) → QuantityEnds track from q → QuantityEnds track from (block_from track q)
    unfolding block_from
    block-ends (Some q) e =
        either (QuantityEnds track from) (leb (q.behind + q.value) (length track))
        (λ h. omega (arith, leb-true (q.behind + q.value) (length track) h)) (λ _. tt)
    block-ends None e = tt

    exclusive-stands : (q : Option Quantity) → QuantityEnds track from q → StepStands track from (exclusive_of q)
    unfolding exclusive_of
    exclusive-stands (Some q) e = record { behind = omega arith; within = e.1; small = omega arith; two = tt }
    exclusive-stands None e = tt

    meta-stands : (type : ℕ) (q : Option Quantity) → QuantityEnds track from q → StepStands track from (meta_of type q)
    unfolding meta_of
    meta-stands type (Some q) e = record { behind = omega arith; within = e.1; small = omega arith; two = tt }
    meta-stands type None e = tt

    block-at-ends : (at : ℕ) → from ≤ at → QuantityEnds track from (block_at track at)
    block-at-ends at f = block-ends (quantity_at track at) (quantity-ends 4 0 from at f)

    message-stands : (status at : ℕ) → from ≤ at → StepStands track from (message_at track status at)
    unfolding message_at
    message-stands status at f =
        either (StepStands track from) (eqb (data_count status) 1)
        (λ one. either (StepStands track from) (is_data track at)
        (λ h.
        let inside = data-inside at h in
        record {
          behind = omega (arith, eqb-true (data_count status) 1 one);
          within = omega arith;
          small = data-small at h;
          two = λ two. absurd (omega (arith, two, eqb-true (data_count status) 1 one));
        })
        (λ _. tt))
        (λ _. either (StepStands track from) (is_data track at && is_data track (at + 1))
        (λ h.
        let inside = data-inside (at + 1) (and_right (is_data track at) _ h) in
        record {
          behind = omega (arith, data-count status);
          within = omega arith;
          small = data-small at (and_left _ _ h);
          two = λ _. (at, refl, refl, refl);
        })
        (λ _. tt))

    pub event-stands : (running at : ℕ) → from ≤ at → StepStands track from (event_at track running at)
    unfolding event_at meta_at
    event-stands running at f =
        let P : Option Placed → Type 0 = StepStands track from in
        let b : ℕ = byte track at in
        let next : ℕ = suc at in
        either P (leb (length track) at) (λ _. tt)
        (λ _. either P (ltb b 128) (λ _. either P (eqb running 0) (λ _. tt) (λ _. message-stands running at f))
        (λ _. either P (ltb b 240) (λ _. message-stands b next (omega arith))
        (λ _. either P (eqb b 240 || eqb b 247)
        (λ _. exclusive-stands (block_at track next) (block-at-ends next (omega arith)))
        (λ _. either P (eqb b 255)
        (λ _. either P (leb (length track) next) (λ _. tt)
        (λ _. meta-stands (byte track next) (block_at track (suc next)) (block-at-ends (suc next) (omega arith))))
        (λ _. tt)))))

-- an event ends behind its place and inside the track, and so does a quantity
pub event-bounds :
    (track : List ℕ) (running at : ℕ) (placed : Placed)
    → event_at track running at ≡ Some placed
    → (at < placed.end) × (placed.end ≤ length track)
event-bounds track running at placed e =
    let q : Stands track at placed = subst (StepStands track at) e (event-stands track at running at (omega arith)) in
    (omega (arith, q.behind, some_bytes placed.event), q.within)

pub quantity-bounds :
    (track : List ℕ) (left value at : ℕ) (q : Quantity)
    → quantity_from left value track at ≡ Some q
    → (at < q.behind) × (q.behind ≤ length track)
quantity-bounds track left value at q e = subst (QuantityEnds track at) e (quantity-ends track left value at at (omega arith))
