-- What bytes have to report is noted in a lent list of numbers, as long as the list has room for it.
use Rattle.std.specs.Prelude.{ℕ, ◌+◌, ◌*◌, Bool, cond, take, leb, Option, Some, None}
use mathlib.Core.List.{List, [], ◌∷◌, ◌++◌, flat_map}
use Rattle.stage.specs.declared.Progression.{Progression}
use Rattle.stage.specs.Stages.{stage_count}
use Rattle.walk.specs.declared.Answer.{Answer}

-- A note is five numbers: its kind, t, and three numbers more.
abbrev pub note_size : ℕ
note_size = 5

-- Of a ring: kind 0, t and the start; the other two are 0.
abbrev pub ring_note : ℕ → ℕ → List ℕ
ring_note t start = 0 ∷ t ∷ start ∷ 0 ∷ 0 ∷ []

-- Of a set set aside: kind 1, t, first, step and many.
abbrev pub set_note : ℕ → Progression → List ℕ
set_note t x = 1 ∷ t ∷ x.first ∷ x.step ∷ x.many ∷ []

-- The note of a ring, and none where no start rang.
abbrev pub ring_notes : ℕ → Option ℕ → List ℕ
ring_notes t None = []
ring_notes t (Some start) = ring_note t start

-- The notes of the answer to byte t: the ring first, then the sets, which are the first `asides` of those in the answer, in order.
unfoldable pub notes_of : ℕ → Answer → List ℕ
notes_of t a = ring_notes t a.ring ++ flat_map (set_note t) (take a.asides a.sets)

-- The room for the notes of one byte: a ring, and a set for each place of a stage.
abbrev pub note_room : ℕ
note_room = note_size * (stage_count + 1)

-- Whether a list of so many numbers has that room behind those used.
abbrev pub room_for : ℕ → ℕ → Bool
room_for size used = leb (used + note_room) size

-- What is noted in a list of so many numbers behind those used: the notes of the answer to byte t, and nothing where there is no room.
abbrev pub notes_within : ℕ → ℕ → ℕ → Answer → List ℕ
notes_within size used t a = cond (room_for size used) (notes_of t a) []
