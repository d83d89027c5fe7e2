-- Several strokes in one call: what bytes have to report is noted in a lent list of numbers, as long as the list has room for it.
use Rattle.std.specs.Prelude.{ℕ, suc, ◌+◌, cond, List, [], ◌∷◌, ◌++◌, length, eqb}
use Rattle.matcher.specs.declared.Matcher.{Matcher}
use Rattle.matcher.specs.Matcher.{matcher_fits}
use Rattle.matcher.specs.Stroke.{stroke_refusal, stroke_answer, after_stroke}
use Rattle.notes.specs.Notes.{notes_of, room_for}

-- Where such a run of strokes ends: the watch; the notes of the bytes taken, one byte's behind another's; all comparisons; how many bytes were
-- taken; the number of the refusal, 0 if there was none.
pub record Scanned : Type 0 where
  pub matcher : Matcher
  pub notes : List ℕ
  pub comparisons : ℕ
  pub taken : ℕ
  pub refusal : ℕ

-- no byte more is taken
abbrev pub halted : Matcher → ℕ → Scanned
halted w refusal = record { matcher = w; notes = []; comparisons = 0; taken = 0; refusal = refusal }

-- what comes behind a byte with these notes and so many comparisons
abbrev pub onward : List ℕ → ℕ → Scanned → Scanned
onward notes comparisons r =
    record {
      matcher = r.matcher;
      notes = notes ++ r.notes;
      comparisons = comparisons + r.comparisons;
      taken = suc r.taken;
      refusal = r.refusal;
    }

-- the notes of the answer to a byte
abbrev pub notes_at : Matcher → ℕ → List ℕ
notes_at w byte = notes_of (suc w.now.at) (stroke_answer w byte)

-- Byte after byte is taken, as long as a list of so many numbers has room for its notes behind those used: until none is left, or one is
-- refused.
unfoldable pub scanned : ℕ → ℕ → Matcher → List ℕ → Scanned
scanned size used w [] = halted w 0
scanned size used w (byte ∷ bytes) =
    cond (room_for size used)
    (cond (eqb (stroke_refusal w) 0)
    (onward (notes_at w byte) (stroke_answer w byte).comparisons
    (scanned size (used + length (notes_at w byte)) (after_stroke w byte) bytes))
    (halted w (stroke_refusal w)))
    (halted w 0)

-- What a call comes to that is lent a list of so many numbers: "value handed in (10)" first, then 7 where the list has no room for the notes of
-- one byte, whatever bytes there are, and then the run.
unfoldable pub scan_of : ℕ → Matcher → List ℕ → Scanned
scan_of size w bytes =
    cond (matcher_fits w) (cond (room_for size 0) (scanned size 0 w bytes) (halted w 7)) (halted w 10)
