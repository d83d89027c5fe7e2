-- The strokes of a track's events between a lowest and a highest bell, and what refuses them (document 02, A.2 and A.6).
use Rattle.std.specs.Prelude.{ℕ, Bool, true, false, cond, not, ◌&&◌, List, [], ◌∷◌, eqb, leb, ltb}
use Rattle.midi_file.specs.declared.event.Event.{Event}
use Rattle.midi_file.specs.declared.event.Event.TheVariants.{Message, Exclusive, Meta}
use Rattle.midi_file.specs.declared.event.Placed.{Placed}
use Rattle.midi_file.specs.declared.note.Note.{Note}
use Rattle.midi_file.specs.declared.note.Note.TheVariants.{Outside, Silent, Struck}
use Rattle.midi_file.specs.declared.Bells.{Bells}
use Rattle.midi_file.specs.Track.{Events}

-- A key is outside the bells, of which the lowest and the highest are given.
abbrev pub is_outside : Bells → ℕ → Bool
is_outside bells key = not (leb bells.lowest key && leb key bells.highest)

-- A rule at a Note On says what its key and its velocity give.
abbrev pub Rule : Type 0
Rule = ℕ → ℕ → Note

-- The rule: velocity 0 gives no stroke, then "a key outside the lowest and highest bell given refuses the file"; "the velocity rule now goes
-- first" (document 02, A.6).
unfoldable pub note_on : Bells → Rule
note_on bells key velocity =
    cond (eqb velocity 0) Silent
    (cond (is_outside bells key) Outside
    (Struck key))

-- Note On: the statuses 9n (hex), "on any channel". "Everything else is dropped."
abbrev pub is_note_on : ℕ → Bool
is_note_on status = leb 144 status && ltb status 160

abbrev pub note_of : Rule → Event → Note
note_of rule (Message status key velocity) = cond (is_note_on status) (rule key velocity) Silent
note_of rule Exclusive = Silent
note_of rule (Meta type n) = Silent

-- What the events give, up to the first that is refused: the strokes, and whether one is outside.
unfoldable pub strokes_of : Rule → List Placed → List ℕ
strokes_of rule [] = []
strokes_of rule (placed ∷ events) =
    elim (note_of rule placed.event) [
      | Outside ↦ []
      | Silent ↦ strokes_of rule events
      | Struck key ↦ key ∷ strokes_of rule events
    ]

unfoldable pub any_outside : Rule → List Placed → Bool
any_outside rule [] = false
any_outside rule (placed ∷ events) =
    elim (note_of rule placed.event) [
      | Outside ↦ true
      | Silent ↦ any_outside rule events
      | Struck key ↦ any_outside rule events
    ]

-- "The first met in the file is given": a broken event stands behind all that are listed, 17 before 16.
abbrev pub events_refusal : Rule → Events → ℕ
events_refusal rule events = cond (any_outside rule events.list) 17 (cond events.whole 0 16)
