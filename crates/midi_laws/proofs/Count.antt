-- A file has three bytes at least for each of its strokes: a time, a key and a velocity. So a buffer of a third of its bytes has room.
-- Assumes nothing.
use Prim.Native.Nat.{ℕ, ◌+◌, ◌*◌, ◌≤◌, ◌<◌}
use mathlib.Core.Path.{◌≡◌, sym}
use mathlib.Core.Bool.{true}
use mathlib.Core.List.{List, [], ◌∷◌}
use native.Mathlib.Omega.{arith}
use lib.Dec.{eqb, leb, ltb}
use lib.ListN.{length, drop, length-take, length-drop}
use borrow.Author.Tests.{ltb-true, le-ltb, lt-leb, eqb-true}
use Rattle.lists.proofs.Laws.{and_right}
use Rattle.lists.proofs.Cases.{by-test}
use Rattle.midi_file.specs.declared.event.Event.{Event}
use Rattle.midi_file.specs.declared.event.Event.TheVariants.{Message, Exclusive, Meta}
use Rattle.midi_file.specs.declared.event.Placed.{Placed}
use Rattle.midi_file.specs.declared.note.Note.TheVariants.{Silent, Struck}
use Rattle.midi_file.specs.File.{part}
use Rattle.midi_file.specs.Track.{data_count, events_of}
use Rattle.midi_file.specs.Strokes.{Rule, is_note_on, note_of, strokes_of}
use Rattle.midi_file.specs.Calls.{file_strokes, file_refusal, read_refusal}
use Rattle.midi_file.proofs.Bounds.{least_bytes}
use Rattle.midi_laws.proofs.Stands.{Chained, track-chained, by-note, by-track}

-- a Note On has two data bytes
pub note-on-data : (status : ℕ) → is_note_on status ≡ true → data_count status ≡ 2
note-on-data status e =
    let below : status < 160 = ltb-true status 160 (and_right (leb 144 status) (ltb status 160) e) in
    rw (lt-leb 192 status (omega arith))

-- an event that strikes has two bytes behind its time
struck-bytes : (rule : Rule) (event : Event) (key : ℕ) → note_of rule event ≡ Struck key → least_bytes event ≡ 2
struck-bytes rule (Message status first second) key e =
    by-test (is_note_on status) (λ t. rw (note-on-data status t)) (λ t. let z : Silent ≡ Struck key = rw t at e in cc)
struck-bytes rule Exclusive key e = cc
struck-bytes rule (Meta type n) key e = cc

chained-count :
    (rule : Rule) (track : List ℕ) (at : ℕ) (events : List Placed)
    → at ≤ length track
    → Chained track at events
    → at + 3 * length (strokes_of rule events) ≤ length track
unfolding strokes_of
chained-count rule track at [] h c = omega arith
chained-count rule track at (placed ∷ events) h c =
    let more = chained-count rule track placed.end events c.0.within c.1 in
    by-note rule placed.event
    (λ e. rw (strokes_of, e) (omega arith))
    (λ e. rw (strokes_of, e) (omega (arith, c.0.behind)))
    (λ key e. rw (strokes_of, e) (omega (arith, c.0.behind, struck-bytes rule placed.event key e)))

pub three-bytes-a-stroke : (rule : Rule) (file : List ℕ) → 3 * length (file_strokes rule file) ≤ length file
three-bytes-a-stroke rule file =
    by-track (λ (strokes : List ℕ). 3 * length strokes ≤ length file) rule file (omega arith)
    (λ start n.
    let track : List ℕ = part file start n in
    omega (
      arith,
      chained-count rule track 0 (events_of track).list (omega arith) (track-chained track),
      length-take n (drop start file),
      length-drop start file,
    ))

-- a buffer of a third of the file's bytes is never too short
pub room-enough :
    (rule : Rule) (file entry : List ℕ) → length file ≤ 3 * length entry → read_refusal rule file entry ≡ file_refusal rule file
unfolding read_refusal
room-enough rule file entry h =
    let room = le-ltb (length entry) (length (file_strokes rule file)) (omega (arith, three-bytes-a-stroke rule file)) in
    by-test (eqb (file_refusal rule file) 0) (λ e. rw (e, room) (sym (eqb-true (file_refusal rule file) 0 e))) (λ e. rw e)
