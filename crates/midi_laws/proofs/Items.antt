-- An item that is written is the event that is read at its place.
-- Assumes nothing.
use Prim.Native.Nat.{ℕ, suc, ◌+◌, ◌≤◌, ◌<◌}
use mathlib.Core.Path.{◌≡◌, ◌∙◌, ap}
use mathlib.Core.Bool.{Bool, true, ◌&&◌}
use mathlib.Core.List.{List, [], ◌∷◌, ◌++◌, append_assoc}
use native.Mathlib.Numerals.{add-one}
use native.Mathlib.Omega.{arith}
use lib.Dec.{eqb}
use lib.ListN.{length, length-append}
use borrow.Author.Tests.{lt-ltb, le-ltb, le-leb, ne_eqb, eqb-true}
use Rattle.std.proofs.Common.{Option, Some}
use Rattle.lists.proofs.Laws.{and_right, and_both}
use Rattle.lists.proofs.Cases.{by-test}
use Rattle.midi_file.specs.declared.event.Event.{Event}
use Rattle.midi_file.specs.declared.event.Event.TheVariants.{Message, Meta}
use Rattle.midi_file.specs.declared.event.Placed.{Placed}
use Rattle.midi_file.specs.Track.{data_count, is_data, message_at, block_from, meta_of, meta_at, event_at, behind_time, step_at}
use Rattle.midi_laws.specs.Writer.Item.{Channel, Aside}
use Rattle.midi_laws.specs.Writer.{Item, quantity_bytes, quantity_limit, status_bytes, item_bytes, Sayable}
use Rattle.midi_laws.proofs.Quantities.{From, from-behind, from-inside, from_in, from_byte, from_next, quantity-read}

-- what is read, with the place where it ends
abbrev ending : Event → ℕ → Option Placed
ending event end = Some (record { event = event; end = end })

module _ {track : List ℕ} where
  data-read : {at b : ℕ} {rest : List ℕ} → From track at (b ∷ rest) → b < 128 → is_data track at ≡ true
  data-read {b = b} f h = and_both (lt-ltb _ _ (from-inside f)) (rw (from_byte f) (lt-ltb b 128 h))

  module _ (rest : List ℕ) (status first second : ℕ) (small : (first < 128) × (second < 128)) (two : data_count status ≡ 2) where
    message-read :
        (at : ℕ) → From track at (first ∷ second ∷ rest) → message_at track status at ≡ ending (Message status first second) (at + 2)
    unfolding message_at
    message-read at f =
        let g = from_next f in
        rw (two, add-one, data-read f small.0, data-read g small.1, from_byte f, from_byte g)

    -- with its status, or without it where that is the running one
    channel-read :
        (running at : ℕ) (brief : Bool)
        → 128 ≤ status
        → status < 240
        → From track at (status_bytes running status brief ++ first ∷ second ∷ rest)
        → event_at track running at ≡ ending (Message status first second) (at + (length (status_bytes running status brief) + 2))
    unfolding event_at status_bytes
    channel-read running at brief low high f =
        by-test (brief && eqb running status)
        (λ e.
        let same = eqb-true running status (and_right brief (eqb running status) e) in
        let g : From track at (first ∷ second ∷ rest) = rw e at f in
        rw (e, from_in g, from_byte g, lt-ltb first 128 small.0, ne_eqb running 0 (omega arith), same) (message-read at g))
        (λ e.
        let g : From track at (status ∷ first ∷ second ∷ rest) = rw e at f in
        let end : suc at + 2 ≡ at + 3 = omega arith in
        rw (e, from_in g, from_byte g, le-ltb status 128 low, lt-ltb status 240 high, ← end) (message-read (suc at) (from_next g)))

  meta-read :
      (rest : List ℕ) (running at type : ℕ) (bytes : List ℕ)
      → length bytes < quantity_limit
      → From track at (255 ∷ type ∷ quantity_bytes (length bytes) ++ (bytes ++ rest))
      → event_at track running at
      ≡ ending (Meta type (length bytes)) (at + (suc (suc (length (quantity_bytes (length bytes)))) + length bytes))
  unfolding event_at meta_at meta_of block_from
  meta-read rest running at type bytes small f =
      let n = length bytes in
      let g = from_next f in
      let h = from_next g in
      let r = from-behind bytes rest (from-behind (quantity_bytes n) (bytes ++ rest) h) in
      rw (
        from_in f,
        from_byte f,
        from_in g,
        from_byte g,
        quantity-read n (bytes ++ rest) small h,
        le-leb (suc (suc at) + length (quantity_bytes n) + n) (length track) (omega (arith, r.within)),
      )
      (ap (ending (Meta type n)) (omega arith))

-- bytes behind a time: the event at their place is what is read at the time's
module _
    (track rest : List ℕ)
    (running at time : ℕ)
    (a b : List ℕ)
    (early : time < quantity_limit)
    (f : From track at (quantity_bytes time ++ a ++ b ++ rest))
  where
    regrouped : From track at (quantity_bytes time ++ (a ++ (b ++ rest)))
    regrouped = rw (append_assoc (quantity_bytes time ++ a) b rest, append_assoc (quantity_bytes time) a (b ++ rest)) at f

    behind-time : From track (at + length (quantity_bytes time)) (a ++ (b ++ rest))
    behind-time = from-behind (quantity_bytes time) (a ++ (b ++ rest)) regrouped

    time-read :
        (event : Event)
        → event_at track running (at + length (quantity_bytes time)) ≡ ending event (at + length (quantity_bytes time) + (length a + length b))
        → step_at track running at ≡ ending event (at + length (quantity_bytes time ++ a ++ b))
    unfolding behind_time
    time-read event e =
        let t = quantity_bytes time in
        rw (quantity-read time (a ++ (b ++ rest)) early regrouped, length-append (t ++ a) b, length-append t a)
        (e ∙ ap (ending event) (omega arith))

pub aside-step :
    (track rest : List ℕ) (running at time type : ℕ) (bytes : List ℕ)
    → time < quantity_limit
    → length bytes < quantity_limit
    → From track at (item_bytes running (Aside time type bytes) ++ rest)
    → step_at track running at ≡ ending (Meta type (length bytes)) (at + length (item_bytes running (Aside time type bytes)))
unfolding item_bytes
aside-step track rest running at time type bytes early small f =
    let a : List ℕ = 255 ∷ type ∷ quantity_bytes (length bytes) in
    time-read track rest running at time a bytes early f (Meta type (length bytes))
    (meta-read rest running (at + length (quantity_bytes time)) type bytes small (behind-time track rest running at time a bytes early f))

-- the event that an item is
abbrev pub event_of : Item → Event
event_of (Channel time status brief first second) = Message status first second
event_of (Aside time type bytes) = Meta type (length bytes)

pub item-step :
    (track rest : List ℕ) (running at : ℕ) (item : Item)
    → Sayable item
    → From track at (item_bytes running item ++ rest)
    → step_at track running at ≡ ending (event_of item) (at + length (item_bytes running item))
unfolding item_bytes
item-step track rest running at (Channel time status brief first second) h f =
    let a = status_bytes running status brief in
    let b : List ℕ = first ∷ second ∷ [] in
    time-read track rest running at time a b h.0 f (Message status first second)
    (channel-read rest status first second h.2 h.1.2 running (at + length (quantity_bytes time)) brief h.1.0 h.1.1
    (behind-time track rest running at time a b h.0 f))
item-step track rest running at (Aside time type bytes) h f = aside-step track rest running at time type bytes h.0 h.1.1 f

pub item-some : (running : ℕ) (item : Item) → 1 ≤ length (item_bytes running item)
unfolding item_bytes
item-some running (Channel time status brief first second) = rw length-append (omega arith)
item-some running (Aside time type bytes) = rw (length-append, length-append) (omega arith)
