-- The inside of a track chunk (document 02, A.2): quantities, and events, each behind its time.
use Rattle.std.specs.Prelude.{ℕ, zero, suc, Option, None, Some, ◌+◌, ◌-◌, ◌*◌, Bool, false, cond, ◌&&◌, ◌||◌, List, [], ◌∷◌, eqb, leb, ltb, length}
use Rattle.midi_file.specs.declared.event.Quantity.{Quantity}
use Rattle.midi_file.specs.declared.event.Event.{Event}
use Rattle.midi_file.specs.declared.event.Event.TheVariants.{Message, Exclusive, Meta}
use Rattle.midi_file.specs.declared.event.Placed.{Placed}
use Rattle.midi_file.specs.File.{byte}

-- A quantity: seven bits in each byte, the most significant first, and the eighth bit set in each but the last. The value that it has
-- behind bytes with a value so far, where it may still have so many bytes, and the place behind it.
unfoldable pub quantity_from : ℕ → ℕ → List ℕ → ℕ → Option Quantity
quantity_from zero value track at = None
quantity_from (suc left) value track at =
    cond (leb (length track) at) None
    (cond (ltb (byte track at) 128) (Some (record { value = 128 * value + byte track at; behind = suc at }))
    (quantity_from left (128 * value + (byte track at - 128)) track (suc at)))

-- It has at most four bytes.
abbrev pub quantity_at : List ℕ → ℕ → Option Quantity
quantity_at track at = quantity_from 4 0 track at

-- A channel message has two data bytes, one for the statuses Cn and Dn (hex).
abbrev pub data_count : ℕ → ℕ
data_count status = cond (leb 192 status && ltb status 224) 1 2

-- The data byte at a place is there, and below 128.
abbrev pub is_data : List ℕ → ℕ → Bool
is_data track at = ltb at (length track) && ltb (byte track at) 128

-- The channel message of a status, its data bytes from a place on; where it has one, 0 stands for the second.
unfoldable pub message_at : List ℕ → ℕ → ℕ → Option Placed
message_at track status at =
    cond (eqb (data_count status) 1)
    (cond (is_data track at) (Some (record { event = Message status (byte track at) 0; end = at + 1 })) None)
    (cond (is_data track at && is_data track (at + 1))
    (Some (record { event = Message status (byte track at) (byte track (at + 1)); end = at + 2 }))
    None)

-- A quantity and so many bytes behind it: how many, and the place behind them.
unfoldable pub block_from : List ℕ → Option Quantity → Option Quantity
block_from track (Some q) =
    cond (leb (q.behind + q.value) (length track)) (Some (record { value = q.value; behind = q.behind + q.value })) None
block_from track None = None

abbrev pub block_at : List ℕ → ℕ → Option Quantity
block_at track at = block_from track (quantity_at track at)

-- An exclusive event, behind its status F0 or F7 (hex): a quantity, and so many bytes.
unfoldable pub exclusive_of : Option Quantity → Option Placed
exclusive_of (Some q) = Some (record { event = Exclusive; end = q.behind })
exclusive_of None = None

abbrev pub exclusive_at : List ℕ → ℕ → Option Placed
exclusive_at track at = exclusive_of (block_at track at)

-- A meta event, behind its status FF (hex): a type, a quantity, and so many bytes.
unfoldable pub meta_of : ℕ → Option Quantity → Option Placed
meta_of type (Some q) = Some (record { event = Meta type q.value; end = q.behind })
meta_of type None = None

unfoldable pub meta_at : List ℕ → ℕ → Option Placed
meta_at track at = cond (leb (length track) at) None (meta_of (byte track at) (block_at track (suc at)))

-- The event at a place, with a running status, or 0 where there is none: a data byte first goes on with the running status; 8n to En
-- (hex) are the statuses of channel messages, F0 and F7 of exclusive events, FF of meta events; F1 to FE else have no place in a file.
unfoldable pub event_at : List ℕ → ℕ → ℕ → Option Placed
event_at track running at =
    cond (leb (length track) at) None
    (cond (ltb (byte track at) 128) (cond (eqb running 0) None (message_at track running at))
    (cond (ltb (byte track at) 240) (message_at track (byte track at) (suc at))
    (cond (eqb (byte track at) 240 || eqb (byte track at) 247) (exclusive_at track (suc at))
    (cond (eqb (byte track at) 255) (meta_at track (suc at))
    None))))

-- The event behind its time.
unfoldable pub behind_time : List ℕ → ℕ → Option Quantity → Option Placed
behind_time track running (Some time) = event_at track running time.behind
behind_time track running None = None

abbrev pub step_at : List ℕ → ℕ → ℕ → Option Placed
step_at track running at = behind_time track running (quantity_at track at)

-- "Running status ends at a meta or exclusive event."
abbrev pub running_behind : Event → ℕ
running_behind (Message status first second) = status
running_behind Exclusive = 0
running_behind (Meta type n) = 0

-- End of track: the meta event of type 2F (hex).
abbrev pub is_end : Event → Bool
is_end (Message status first second) = false
is_end Exclusive = false
is_end (Meta type n) = eqb type 47

-- its length is 0
abbrev pub is_bare : Event → Bool
is_bare (Message status first second) = false
is_bare Exclusive = false
is_bare (Meta type n) = eqb n 0

-- What a track reads as: its events in their order, each with the place where it ends, up to the end of track or to the first that is
-- broken; and whether it is whole: whether the last of them is an end of track of length 0 with nothing behind.
pub record Events : Type 0 where
  pub list : List Placed
  pub whole : Bool

abbrev pub broken : Events
broken = record { list = []; whole = false }

abbrev pub joined : Placed → Events → Events
joined placed events = record { list = placed ∷ events.list; whole = events.whole }

abbrev pub closed : List ℕ → Placed → Events
closed track placed = record { list = placed ∷ []; whole = is_bare placed.event && eqb placed.end (length track) }

-- What stands at a place, and the events behind it.
unfoldable pub followed : List ℕ → (Placed → Events) → Option Placed → Events
followed track behind None = broken
followed track behind (Some placed) = cond (is_end placed.event) (closed track placed) (joined placed (behind placed))

-- The events from a place on. Each has a byte at least, so a track has more fuel than events.
unfoldable pub events_from : ℕ → List ℕ → ℕ → ℕ → Events
events_from zero track running at = broken
events_from (suc fuel) track running at =
    followed track
    (λ placed. events_from fuel track (running_behind placed.event) placed.end)
    (step_at track running at)

-- The events of a track, which begins with no running status.
unfoldable pub events_of : List ℕ → Events
events_of track = events_from (suc (length track)) track 0 0
