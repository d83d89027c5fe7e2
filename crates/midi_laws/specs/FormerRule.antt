-- The rule at a Note On before document 02, A.6, and the lifted keys that it was stopped at. The theorems of proofs/FormerRule.antt alone
-- speak of it.
use Rattle.std.specs.Prelude.{ℕ, suc, Ok, ◌+◌, ◌≡◌, true, false, cond, List, ◌∷◌, ◌++◌, eqb, length}
use Rattle.midi_file.specs.declared.Bells.{Bells}
use Rattle.midi_file.specs.declared.event.Event.TheVariants.{Message}
use Rattle.midi_file.specs.declared.event.Placed.{Placed}
use Rattle.midi_file.specs.declared.note.Note.TheVariants.{Outside, Silent, Struck}
use Rattle.midi_file.specs.File.{byte, part, track_of}
use Rattle.midi_file.specs.Track.{Events, events_from, events_of}
use Rattle.midi_file.specs.Strokes.{Rule, is_outside, is_note_on, note_on, strokes_of, any_outside, events_refusal}
use Rattle.midi_file.specs.Calls.{judged_refusal, judged_count, judged_buffer, read_refusal, read_count, read_buffer}

-- "A key outside the lowest and highest bell given refuses the file, then velocity 0 gives no stroke" (document 02, A.2).
unfoldable pub former_note_on : Bells → Rule
former_note_on bells key velocity =
    cond (is_outside bells key) Outside
    (cond (eqb velocity 0) Silent
    (Struck key))

-- What a call gives: the number of its refusal, 0 where it is accepted, its count, and its buffer.
pub record Given : Type 0 where
  pub refusal : ℕ
  pub count : ℕ
  pub buffer : List ℕ

-- What reading a file under a rule gives; what is given where these are the refusal and the strokes; and a refusal with nothing changed.
abbrev pub given : Rule → List ℕ → List ℕ → Given
given rule file entry =
    record { refusal = read_refusal rule file entry; count = read_count rule file entry; buffer = read_buffer rule file entry }

abbrev pub judged : ℕ → List ℕ → List ℕ → Given
judged refusal strokes entry =
    record {
      refusal = judged_refusal refusal strokes entry;
      count = judged_count refusal strokes entry;
      buffer = judged_buffer refusal strokes entry;
    }

abbrev pub refused : ℕ → List ℕ → Given
refused refusal entry = record { refusal = refusal; count = 0; buffer = entry }

-- The events of a track from a place on, with a running status. Those from its begin, with none, are the track's.
abbrev pub events_behind : List ℕ → ℕ → ℕ → Events
events_behind track running at = events_from (suc (length track)) track running at

-- Events of a file's track chunk, whose inside begins at `start` and has `size` bytes: the first of them that the former rule refuses is a
-- Note On of velocity 0.
pub record FirstLifted (bells : Bells) (file : List ℕ) (start size : ℕ) (events : Events) : Type 0 where
  -- the events before it, none of which the former rule refuses
  pub early : List Placed
  pub passed : any_outside (former_note_on bells) early ≡ false
  -- its status, and its key, which is outside the bells
  pub status : ℕ
  pub key : ℕ
  pub on : is_note_on status ≡ true
  pub outside : is_outside bells key ≡ true
  -- where its key stands in the track, and so in the file, with velocity 0 behind it
  pub at : ℕ
  pub key-there : byte file (start + at) ≡ key
  pub velocity-there : byte file (start + (at + 1)) ≡ 0
  -- the events are those before it, itself, and those that are read behind it, with its status running
  pub list :
      events.list
      ≡ early
      ++ record { event = Message status key 0; end = at + 2 }
      ∷ (events_behind (part file start size) status (at + 2)).list
  pub whole : events.whole ≡ (events_behind (part file start size) status (at + 2)).whole

-- A file that "got 17 for a Note On of velocity 0".
pub record Lifted (bells : Bells) (file : List ℕ) : Type 0 where
  pub start : ℕ
  pub size : ℕ
  pub chunk : track_of file ≡ Ok (record { start = start; size = size })
  pub first : FirstLifted bells file start size (events_of (part file start size))

-- "They now give what reading on gives": the strokes of the events before the Note On, as they were, and of those behind it; and what those
-- behind it are refused for.
module _ {bells : Bells} {file : List ℕ} (x : Lifted bells file) where
  abbrev pub read_on : Events
  read_on = events_behind (part file x.start x.size) x.first.status (x.first.at + 2)

  abbrev pub reading_on : List ℕ → Given
  reading_on entry =
      judged (events_refusal (note_on bells) read_on)
      (strokes_of (former_note_on bells) x.first.early ++ strokes_of (note_on bells) read_on.list) entry
