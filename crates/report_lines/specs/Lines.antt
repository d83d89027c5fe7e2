-- The lines of the printing program, as bytes (document 01, "The printing program"), and what a lent buffer holds once they are put into it.
use Rattle.std.specs.Prelude.{ℕ, Option, None, Some, ◌+◌, ◌*◌, ◌/◌, Bool, cond, length, take, drop, leb, eqb}
use mathlib.Core.List.{List, [], ◌∷◌, ◌++◌, flat_map}
use Rattle.decimal.specs.Decimal.{decimal}
use Rattle.stage.specs.declared.Progression.{Progression}
use Rattle.walk.specs.declared.Answer.{Answer}
use Rattle.notes.specs.Notes.{note_size}
use Rattle.report_lines.specs.Sizes.{most_line}

-- "Printed numbers are decimal without leading zeros", and "one space parts the items": 32 is the space.
abbrev pub item : ℕ → List ℕ
item n = 32 ∷ decimal n

-- A line: its letter, its numbers, and "each line ends in one line feed", which is 10.
unfoldable pub line : ℕ → List ℕ → List ℕ
line letter numbers = letter ∷ flat_map item numbers ++ 10 ∷ []

-- "`A t first step many` for a set aside": 65 is `A`.
abbrev pub line_a : ℕ → Progression → List ℕ
line_a t a = line 65 (t ∷ a.first ∷ a.step ∷ a.many ∷ [])

-- "`R t start` for a ring": 82 is `R`.
abbrev pub line_r : ℕ → ℕ → List ℕ
line_r t start = line 82 (t ∷ start ∷ [])

-- "`X number` for a refusal": 88 is `X`.
abbrev pub line_x : ℕ → List ℕ
line_x number = line 88 (number ∷ [])

-- "Last `E t total`": 69 is `E`.
abbrev pub line_e : ℕ → ℕ → List ℕ
line_e t total = line 69 (t ∷ total ∷ [])

-- The line of a ring, and none where no start rang.
abbrev pub ring_lines : ℕ → Option ℕ → List ℕ
ring_lines t None = []
ring_lines t (Some start) = line_r t start

-- What is printed of the answer to byte t: "At one byte, R stands before A." The sets are the first `asides` of those in the answer, in order.
unfoldable pub report_lines : ℕ → Answer → List ℕ
report_lines t answer = ring_lines t answer.ring ++ flat_map (line_a t) (take answer.asides answer.sets)

-- The line of a note (`notes_of`, matcher/specs/Scan.antt): kind 0 is a ring, any other a set set aside.
abbrev pub note_line : ℕ → ℕ → ℕ → ℕ → ℕ → List ℕ
note_line kind t first step many =
    cond (eqb kind 0) (line_r t first) (line_a t (record { first = first; step = step; many = many }))

-- The lines of a list of notes, five numbers each. Numbers behind the last whole note count for nothing.
unfoldable pub note_lines : List ℕ → List ℕ
note_lines [] = []
note_lines (a ∷ []) = []
note_lines (a ∷ b ∷ []) = []
note_lines (a ∷ b ∷ c ∷ []) = []
note_lines (a ∷ b ∷ c ∷ d ∷ []) = []
note_lines (kind ∷ t ∷ first ∷ step ∷ many ∷ notes) = note_line kind t first step many ++ note_lines notes

-- The room that a buffer must have from the place on: the lines of one byte are never longer.
abbrev pub room : ℕ
room = 2048

abbrev pub has_room : List ℕ → ℕ → Bool
has_room buf at = leb (at + room) (length buf)

-- The place behind the lines, and none where the buffer is full.
unfoldable pub placed : List ℕ → ℕ → List ℕ → Option ℕ
placed buf at lines = cond (has_room buf at) (Some (at + length lines)) None

-- The buffer with the lines at their place, all else as it was, or as it was where it is full.
unfoldable pub written : List ℕ → ℕ → List ℕ → List ℕ
written buf at lines = cond (has_room buf at) (take at buf ++ lines ++ drop (at + length lines) buf) buf

-- For the lines of notes it must have the room of as many of the longest lines.
abbrev pub has_notes_room : List ℕ → ℕ → List ℕ → Bool
has_notes_room buf at notes = leb (at + most_line * (length notes / note_size)) (length buf)

-- The place behind their lines, and none where the buffer is full.
unfoldable pub notes_placed : List ℕ → ℕ → List ℕ → Option ℕ
notes_placed buf at notes = cond (has_notes_room buf at notes) (Some (at + length (note_lines notes))) None

-- The buffer with their lines at their place, all else as it was, or as it was where it is full.
unfoldable pub notes_written : List ℕ → ℕ → List ℕ → List ℕ
notes_written buf at notes =
    cond (has_notes_room buf at notes) (take at buf ++ note_lines notes ++ drop (at + length (note_lines notes)) buf) buf
