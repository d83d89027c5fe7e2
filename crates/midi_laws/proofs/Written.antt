-- What is written is read back: a file of items is refused where one is outside the bells, and else its strokes are the items' keys.
-- Assumes nothing.
use Prim.Native.Nat.{ℕ, zero, suc, ◌+◌, ◌*◌, ◌/◌, ◌%◌, ◌<◌}
use mathlib.Core.Path.{◌≡◌, refl, ◌∙◌, ap}
use mathlib.Core.Bool.{true, false, cond, not}
use mathlib.Core.List.{List, [], ◌∷◌}
use native.Mathlib.Nat.{div-add-mod}
use native.Mathlib.Omega.{arith}
use lib.Dec.{eqb}
use lib.ListN.{length, length-append}
use lib.Seq.{take-length}
use borrow.Author.Tests.{lt-ltb, le-ltb, eq-eqb, ne_eqb, eqb-true, eqb-false}
use Rattle.lists.proofs.Cases.{by-test}
use Rattle.midi_file.specs.declared.Bells.{Bells}
use Rattle.midi_file.specs.File.{part, number_at, same_bytes, chunk_length, track_of}
use Rattle.midi_file.specs.Track.{is_end, running_behind, joined, Events, followed, events_from, events_of}
use Rattle.midi_file.specs.Strokes.{is_outside, note_on, is_note_on, strokes_of, any_outside}
use Rattle.midi_file.specs.Calls.{file_strokes, file_refusal}
use Rattle.midi_file.proofs.Chunks.{Header}
use Rattle.midi_laws.specs.Writer.Item.{Channel, Aside}
use Rattle.midi_laws.specs.Writer.{
  Item,
  leading,
  item_bytes,
  running_after,
  items_bytes,
  chunk_limit,
  track_bytes,
  file_of,
  Sayable,
  EachSayable,
  keys,
  all_inside,
}
use Rattle.midi_laws.proofs.Chunks.{track_at, track-behind, at-track}
use Rattle.midi_laws.proofs.Quantities.{From, from_all, from-behind}
use Rattle.midi_laws.proofs.Items.{event_of, aside-step, item-step, item-some}

-- What events say of the items that they are.
record Says (bells : Bells) (items : List Item) (events : Events) : Type 0 where
  whole : events.whole ≡ true
  outside : any_outside (note_on bells) events.list ≡ not (all_inside bells items)
  strokes : all_inside bells items ≡ true → strokes_of (note_on bells) events.list ≡ keys items

-- one item more
says-more :
    (bells : Bells) (item : Item) (items : List Item) (events : Events) (end : ℕ)
    → Says bells items events
    → Says bells (item ∷ items) (joined (record { event = event_of item; end = end }) events)
unfolding any_outside strokes_of all_inside keys note_on
says-more bells (Channel time status brief key velocity) items events end h =
    by-test (is_note_on status)
    (λ n.
    by-test (eqb velocity 0)
    (λ v.
    let silent = le-ltb 0 velocity (omega (arith, eqb-true velocity 0 v)) in
    record {
      whole = h.whole;
      outside = rw (any_outside, n, note_on, v, silent) h.outside;
      strokes = λ e. rw (strokes_of, n, note_on, v, silent) (h.strokes (rw (n, silent) at e));
    })
    (λ v.
    let heard = lt-ltb 0 velocity (omega (arith, eqb-false velocity 0 v)) in
    by-test (is_outside bells key)
    (λ o.
    record {
      whole = h.whole;
      outside = rw (any_outside, n, note_on, v, o, heard);
      strokes = λ e. let z : false ≡ true = rw (n, heard, o) at e in cc;
    })
    (λ o.
    record {
      whole = h.whole;
      outside = rw (any_outside, n, note_on, v, o, heard) h.outside;
      strokes = λ e. rw (strokes_of, n, note_on, v, o, heard, h.strokes (rw (n, heard, o) at e));
    })))
    (λ n.
    record {
      whole = h.whole;
      outside = rw (any_outside, n) h.outside;
      strokes = λ e. rw (strokes_of, n) (h.strokes (rw n at e));
    })
says-more bells (Aside time type bytes) items events end h =
    record { whole = h.whole; outside = h.outside; strokes = h.strokes }

-- the running status behind an item, and that no item is an end of track
same-running : (item : Item) → running_behind (event_of item) ≡ running_after item
same-running (Channel time status brief first second) = refl
same-running (Aside time type bytes) = refl

no_end : (item : Item) → Sayable item → is_end (event_of item) ≡ false
no_end (Channel time status brief first second) h = refl
no_end (Aside time type bytes) h = ne_eqb type 47 h.1.0

-- The events from a place on where items are written.
events-say :
    (bells : Bells) (items : List Item) (fuel : ℕ) (track : List ℕ) (running at : ℕ)
    → EachSayable items
    → From track at (items_bytes running items)
    → length (items_bytes running items) < fuel
    → Says bells items (events_from fuel track running at)
unfolding items_bytes item_bytes leading events_from followed any_outside strokes_of all_inside keys
events-say bells items zero track running at h f l = absurd (omega arith)
events-say bells [] (suc fuel) track running at h f l =
    rw (aside-step track [] running at 0 47 [] (omega arith) (omega arith) f, followed)
    (record { whole = eq-eqb (at + 4) (length track) f.within; outside = refl; strokes = λ e. refl })
events-say bells (item ∷ items) (suc fuel) track running at h f l =
    let bytes = item_bytes running item in
    let rest = items_bytes (running_after item) items in
    let more =
    events-say bells items fuel track (running_after item) (at + length bytes) h.1 (from-behind bytes rest f)
    (omega (arith, length-append bytes rest, item-some running item))
    in
    rw (item-step track rest running at item h.0 f, followed, no_end item h.0, same-running item)
    (says-more bells item items (events_from fuel track (running_after item) (at + length bytes)) (at + length bytes) more)

-- a number from its four bytes
four-back :
    (n : ℕ)
    → n < chunk_limit
    → 256 * (256 * (256 * (256 * 0 + n / 16777216 % 256) + n / 65536 % 256) + n / 256 % 256) + n % 256 ≡ n
four-back n h =
    let second : n / 65536 ≡ n / 256 / 256 = omega arith in
    let first : n / 16777216 ≡ n / 256 / 256 / 256 = omega arith in
    let least : 256 * 0 + n / 256 / 256 / 256 % 256 ≡ n / 256 / 256 / 256 = omega arith in
    rw (first, second, least, div-add-mod (n / 256 / 256) 256, div-add-mod (n / 256) 256, div-add-mod n 256)

-- The file has a header, and its track chunk holds the items.
module _ (division : ℕ) (items : List Item) (small : length (track_bytes items) < chunk_limit) where
  header-written : Header (file_of division items)
  unfolding file_of number_at same_bytes
  header-written = record { whole = omega arith; letters = refl; long = omega arith; format = refl; single = refl }

  length-written : chunk_length (file_of division items) 14 ≡ length (track_bytes items)
  unfolding file_of number_at
  length-written = four-back (length (track_bytes items)) small

  track-written : track_of (file_of division items) ≡ track_at 22 (length (track_bytes items))
  unfolding file_of number_at same_bytes
  track-written =
      let file = file_of division items in
      track-behind file header-written
      ∙ at-track file (length file) 14 (omega (arith, length-written)) refl
      ∙ ap (track_at 22) length-written

  part-written : part (file_of division items) 22 (length (track_bytes items)) ≡ track_bytes items
  unfolding file_of
  part-written = take-length (track_bytes items)

pub written :
    (bells : Bells) (division : ℕ) (items : List Item)
    → EachSayable items
    → length (track_bytes items) < chunk_limit
    → (file_refusal (note_on bells) (file_of division items) ≡ cond (all_inside bells items) 0 17)
    × (all_inside bells items ≡ true → file_strokes (note_on bells) (file_of division items) ≡ keys items)
unfolding file_refusal file_strokes events_of
written bells division items h small =
    let track = track_bytes items in
    let q = events-say bells items (suc (length track)) track 0 0 h (from_all track) (omega arith) in (
      rw (file_refusal, track-written division items small, part-written division items small, q.outside, q.whole)
          (by-test (all_inside bells items) (λ e. rw e) (λ e. rw e)),
      λ e. rw (file_strokes, track-written division items small, part-written division items small) (q.strokes e),
    )
