-- Several strokes in a row, as calls of a list and as a history: what a scan (`scanned`, scanner/specs/Scan.antt) stands for.
use Rattle.std.specs.Prelude.{ℕ, suc, ◌+◌, List, [], ◌∷◌, ◌++◌}
use Rattle.matcher.specs.declared.Matcher.{Matcher}
use Rattle.matcher.specs.Stroke.{stroke_answer, after_stroke}
use Rattle.notes.specs.Notes.{notes_of}
use Rattle.whole_run.specs.History.{History}
use Rattle.whole_run.specs.Run.{core, Call, stroke}

-- a stroke of the core for each byte
abbrev pub strokes : List ℕ → List Call
strokes [] = []
strokes (byte ∷ bytes) = stroke core byte ∷ strokes bytes

-- the bytes taken, each with the answer given at it
abbrev pub struck : Matcher → List ℕ → History
struck w [] = []
struck w (byte ∷ bytes) = record { byte = byte; answer = stroke_answer w byte } ∷ struck (after_stroke w byte) bytes

-- the notes of the answers of a history, one byte's behind another's, where t was so much before its first byte
abbrev pub notes_from : ℕ → History → List ℕ
notes_from t [] = []
notes_from t (x ∷ h) = notes_of (suc t) x.answer ++ notes_from (suc t) h

-- all comparisons of a history
abbrev pub total_of : History → ℕ
total_of [] = 0
total_of (x ∷ h) = x.answer.comparisons + total_of h
