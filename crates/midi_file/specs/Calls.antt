-- The call that reads a file under a rule at Note Ons: the number of its refusal, 0 where it is accepted, how many strokes it writes, and the
-- buffer as it leaves it (document 02, A.2).
use Rattle.std.specs.Prelude.{ℕ, Ok, Err, cond, List, [], ◌++◌, eqb, ltb, length, take, drop}
use Rattle.refusal.specs.Number.{refusal_number}
use Rattle.midi_file.specs.File.{part, track_of}
use Rattle.midi_file.specs.Track.{events_of}
use Rattle.midi_file.specs.Strokes.{Rule, strokes_of, events_refusal}

-- what a track's events give
abbrev pub track_strokes : Rule → List ℕ → List ℕ
track_strokes rule track = strokes_of rule (events_of track).list

abbrev pub track_refusal : Rule → List ℕ → ℕ
track_refusal rule track = events_refusal rule (events_of track)

-- The strokes of a file, and what refuses it: 15 for a header or a track that it has not, 16 for a chunk that is cut short before anything
-- inside it, else what its track gives.
unfoldable pub file_strokes : Rule → List ℕ → List ℕ
file_strokes rule file =
    elim (track_of file) [
      | Err refusal ↦ []
      | Ok track ↦ track_strokes rule (part file track.start track.size)
    ]

unfoldable pub file_refusal : Rule → List ℕ → ℕ
file_refusal rule file =
    elim (track_of file) [
      | Err refusal ↦ refusal_number refusal
      | Ok track ↦ track_refusal rule (part file track.start track.size)
    ]

-- "And 7 only after the whole file reads well."
abbrev pub judged_refusal : ℕ → List ℕ → List ℕ → ℕ
judged_refusal refusal strokes entry = cond (eqb refusal 0) (cond (ltb (length entry) (length strokes)) 7 0) refusal

abbrev pub judged_count : ℕ → List ℕ → List ℕ → ℕ
judged_count refusal strokes entry = cond (eqb (judged_refusal refusal strokes entry) 0) (length strokes) 0

-- "Buffer bytes behind the strokes are untouched."
abbrev pub judged_buffer : ℕ → List ℕ → List ℕ → List ℕ
judged_buffer refusal strokes entry =
    cond (eqb (judged_refusal refusal strokes entry) 0) (strokes ++ drop (length strokes) entry) entry

-- What a track by itself is judged as, and what a file is.
abbrev pub track_verdict : Rule → List ℕ → List ℕ → ℕ
track_verdict rule track entry = judged_refusal (track_refusal rule track) (track_strokes rule track) entry

abbrev pub track_count : Rule → List ℕ → List ℕ → ℕ
track_count rule track entry = judged_count (track_refusal rule track) (track_strokes rule track) entry

abbrev pub track_buffer : Rule → List ℕ → List ℕ → List ℕ
track_buffer rule track entry = judged_buffer (track_refusal rule track) (track_strokes rule track) entry

unfoldable pub read_refusal : Rule → List ℕ → List ℕ → ℕ
read_refusal rule file entry = judged_refusal (file_refusal rule file) (file_strokes rule file) entry

unfoldable pub read_count : Rule → List ℕ → List ℕ → ℕ
read_count rule file entry = judged_count (file_refusal rule file) (file_strokes rule file) entry

unfoldable pub read_buffer : Rule → List ℕ → List ℕ → List ℕ
read_buffer rule file entry = judged_buffer (file_refusal rule file) (file_strokes rule file) entry

-- A buffer with as many of these bytes at its front as it has room for.
unfoldable pub filled : List ℕ → List ℕ → List ℕ
filled bytes buf = take (length buf) bytes ++ drop (length bytes) buf
