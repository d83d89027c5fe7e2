-- What the program promises: the bytes that it hands to a write are the strokes of the file that it read.
use Rattle.std.specs.Prelude.{ℕ, ◌<◌, ◌≡◌, Result, Ok, Err, List, length, take}
use Rattle.refusal.specs.declared.Refusal.{Refusal}
use Rattle.refusal.specs.Number.{refusal_number}
use Rattle.midi_file.specs.declared.Bells.{Bells}
use Rattle.midi_file.specs.Strokes.{note_on}
use Rattle.midi_file.specs.Calls.{file_strokes, read_refusal}
use Rattle.midi.specs.declared.Made.{Made}
use Rattle.midi.specs.declared.Failure.{Failure}
use Rattle.midi.specs.declared.Failure.TheVariants.{Unreadable, Overlong, Refused, Unwritable}

-- A file was read to the front of the buffer `file`, and its strokes put into the buffer `entry`, which is `exit` then: a read failed, or the
-- file fills its buffer, or it is refused, and nothing was written; or its strokes, the front of `exit`, were written, or could not be.
pub data Turned (bells : Bells) (file entry exit : List ℕ) (r : Result Made Failure) : Type 0 where
  unread : r ≡ Err Unreadable → Turned bells file entry exit r
  overlong : (read : ℕ) → r ≡ Err (Overlong read) → length file ≡ read → Turned bells file entry exit r
  refused :
      (read : ℕ) (refusal : Refusal)
      → r ≡ Err (Refused read refusal)
      → read < length file
      → refusal_number refusal ≡ read_refusal (note_on bells) (take read file) entry
      → Turned bells file entry exit r
  written :
      (made : Made)
      → r ≡ Ok made
      → made.read < length file
      → read_refusal (note_on bells) (take made.read file) entry ≡ 0
      → take made.written exit ≡ file_strokes (note_on bells) (take made.read file)
      → made.written ≡ length (file_strokes (note_on bells) (take made.read file))
      → Turned bells file entry exit r
  unwritten : r ≡ Err Unwritable → Turned bells file entry exit r
