-- Each stroke of a file is the key of a bell, from the lowest to the highest, and below 128.
-- Assumes nothing.
use Prim.Native.Nat.{ℕ, zero, suc, ◌≤◌, ◌<◌}
use mathlib.Core.Path.{◌≡◌, subst}
use mathlib.Core.Bool.{false, ◌&&◌}
use mathlib.Core.List.{List, [], ◌∷◌}
use native.Mathlib.Omega.{arith}
use lib.Dec.{eqb, leb}
use lib.ListN.{length, get_or}
use borrow.Author.Tests.{leb-true, not-false}
use Rattle.lists.proofs.Laws.{and_left, and_right}
use Rattle.lists.proofs.Cases.{either}
use Rattle.midi_file.specs.declared.event.Event.{Event}
use Rattle.midi_file.specs.declared.event.Event.TheVariants.{Message, Exclusive, Meta}
use Rattle.midi_file.specs.declared.event.Placed.{Placed}
use Rattle.midi_file.specs.declared.note.Note.{Note}
use Rattle.midi_file.specs.declared.note.Note.TheVariants.{Outside, Silent, Struck}
use Rattle.midi_file.specs.declared.Bells.{Bells}
use Rattle.midi_file.specs.File.{part}
use Rattle.midi_file.specs.Track.{events_of}
use Rattle.midi_file.specs.Strokes.{is_outside, note_on, is_note_on, note_of, strokes_of}
use Rattle.midi_file.specs.Calls.{file_strokes}
use Rattle.midi_file.proofs.Bounds.{first_data}
use Rattle.midi_laws.proofs.Stands.{Chained, track-chained, by-note, by-track}

-- the key of a bell
abbrev IsBell : Bells → ℕ → Type 0
IsBell bells key = (bells.lowest ≤ key) × ((key ≤ bells.highest) × (key < 128))

abbrev EachBell : Bells → List ℕ → Type 0
EachBell bells strokes = (i : ℕ) → i < length strokes → IsBell bells (get_or strokes i 0)

bell-inside : (bells : Bells) (key : ℕ) → is_outside bells key ≡ false → key < 128 → IsBell bells key
bell-inside bells key e small =
    let above = leb bells.lowest key in
    let below = leb key bells.highest in
    let t = not-false (above && below) e in
    (leb-true bells.lowest key (and_left above below t), (leb-true key bells.highest (and_right above below t), small))

-- What is struck is a message's first data byte, which is not outside the bells.
abbrev NoteInside : Bells → Note → Type 0
NoteInside bells Outside = Unit {0}
NoteInside bells Silent = Unit {0}
NoteInside bells (Struck key) = IsBell bells key

note-inside : (bells : Bells) (key velocity : ℕ) → key < 128 → NoteInside bells (note_on bells key velocity)
unfolding note_on
note-inside bells key velocity small =
    either (NoteInside bells) (eqb velocity 0) (λ _. tt)
    (λ _. either (NoteInside bells) (is_outside bells key) (λ _. tt) (λ o. bell-inside bells key o small))

event-inside : (bells : Bells) (event : Event) → first_data event < 128 → NoteInside bells (note_of (note_on bells) event)
event-inside bells (Message status first second) small =
    either (NoteInside bells) (is_note_on status) (λ _. note-inside bells first second small) (λ _. tt)
event-inside bells Exclusive small = tt
event-inside bells (Meta type n) small = tt

none_inside : (bells : Bells) → EachBell bells []
none_inside bells i h = absurd (omega arith)

more-inside : (bells : Bells) (key : ℕ) (strokes : List ℕ) → IsBell bells key → EachBell bells strokes → EachBell bells (key ∷ strokes)
more-inside bells key strokes first more zero h = first
more-inside bells key strokes first more (suc i) h = more i (omega arith)

chained-inside :
    (bells : Bells) (track : List ℕ) (at : ℕ) (events : List Placed) → Chained track at events → EachBell bells (strokes_of (note_on bells) events)
unfolding strokes_of
chained-inside bells track at [] c = none_inside bells
chained-inside bells track at (placed ∷ events) c =
    let more = chained-inside bells track placed.end events c.1 in
    by-note (note_on bells) placed.event
    (λ e. rw (strokes_of, e) (none_inside bells))
    (λ e. rw (strokes_of, e) more)
    (λ key e.
    let first : IsBell bells key = subst (NoteInside bells) e (event-inside bells placed.event c.0.small) in
    rw (strokes_of, e) (more-inside bells key (strokes_of (note_on bells) events) first more))

pub inside-bells :
    (bells : Bells) (file : List ℕ) (i : ℕ)
    → i < length (file_strokes (note_on bells) file)
    → (bells.lowest ≤ get_or (file_strokes (note_on bells) file) i 0)
    × ((get_or (file_strokes (note_on bells) file) i 0 ≤ bells.highest) × (get_or (file_strokes (note_on bells) file) i 0 < 128))
inside-bells bells file =
    by-track (EachBell bells) (note_on bells) file (none_inside bells)
    (λ start n. let track : List ℕ = part file start n in chained-inside bells track 0 (events_of track).list (track-chained track))
