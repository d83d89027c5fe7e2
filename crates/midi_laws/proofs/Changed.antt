-- A file that document 02, A.6 changes: a lifted key outside the bells, and a struck one inside them behind it. It got 17, and is read now.
-- Assumes nothing.
use Prim.Native.Nat.{ℕ}
use mathlib.Core.Path.{◌≡◌, refl}
use mathlib.Core.List.{List, [], ◌∷◌}
use Rattle.midi_file.specs.declared.Bells.{Bells}
use Rattle.midi_file.specs.File.{number_at, same_bytes, track_from, track_of}
use Rattle.midi_file.specs.Track.{quantity_from, message_at, block_from, meta_of, meta_at, event_at, behind_time, followed, events_from, events_of}
use Rattle.midi_file.specs.Strokes.{note_on, strokes_of, any_outside}
use Rattle.midi_file.specs.Calls.{file_strokes, file_refusal, read_refusal, read_count, read_buffer}
use Rattle.midi_laws.specs.FormerRule.{former_note_on, given, refused}

-- one bell, key 60, and a buffer of two bytes
abbrev bell : Bells
bell = record { lowest = 60; highest = 60 }

abbrev entry : List ℕ
entry = 7 ∷ 7 ∷ []

-- header and track chunk: Note On of key 61 with velocity 0, of key 60 with velocity 64 and that status, end of track
abbrev file : List ℕ
file =
    77 ∷ 84 ∷ 104 ∷ 100 ∷ 0 ∷ 0 ∷ 0 ∷ 6 ∷ 0 ∷ 0 ∷ 0 ∷ 1 ∷ 0 ∷ 96
    ∷ 77 ∷ 84 ∷ 114 ∷ 107 ∷ 0 ∷ 0 ∷ 0 ∷ 11
    ∷ 0 ∷ 144 ∷ 61 ∷ 0
    ∷ 0 ∷ 60 ∷ 64
    ∷ 0 ∷ 255 ∷ 47 ∷ 0 ∷ []

pub changed :
    (given (former_note_on bell) file entry ≡ refused 17 entry)
    × (given (note_on bell) file entry ≡ record { refusal = 0; count = 1; buffer = 60 ∷ 7 ∷ [] })
unfolding note_on former_note_on number_at same_bytes track_from track_of quantity_from message_at block_from meta_of meta_at event_at behind_time
    followed events_from events_of strokes_of any_outside file_strokes file_refusal read_refusal read_count read_buffer
changed = (refl, refl)
