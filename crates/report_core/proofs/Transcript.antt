-- What one byte, and a run of strokes, come to: t and comparisons.
-- Assumes nothing.
use Prim.Native.Nat.{ℕ, suc, ◌+◌, ◌*◌, ◌≤◌, ◌<◌}
use mathlib.Core.Path.{◌≡◌, sym, ◌∙◌}
use mathlib.Core.Bool.{true, true≢false}
use mathlib.Core.List.{List, [], ◌∷◌}
use native.Mathlib.Omega.{arith}
use lib.Dec.{eqb}
use lib.ListN.{length}
use borrow.Author.Tests.{eqb-true, eqb-false, le-leb}
use Rattle.ladder.proofs.Levels.{levels-bound}
use Rattle.stage.specs.Stage.{max_taken}
use Rattle.matcher.specs.declared.Matcher.{Matcher}
use Rattle.matcher.specs.Matcher.{matcher_fits}
use Rattle.matcher.specs.Stroke.{stroke_refusal, stroke_answer, after_stroke}
use Rattle.notes.specs.Notes.{note_room, room_for}
use Rattle.scanner.specs.Scan.{notes_at, Scanned, scanned}
use Rattle.lists.proofs.Cases.{by-test}
use Rattle.matcher.proofs.Ceiling.{ceiling}
use Rattle.matcher.proofs.Sound.{sound, card-of, taken-below}
use Rattle.report_core.specs.Progress.{most_comparisons}

-- A byte that is taken: the watch has no misfit and is not spent, and t rises by one.
pub taken-fits : (w : Matcher) → stroke_refusal w ≡ 0 → matcher_fits w ≡ true
taken-fits w e = by-test (matcher_fits w) (λ f. f) (λ f. absurd (omega (arith, rw f at e)))

pub taken-later : (w : Matcher) (byte : ℕ) → stroke_refusal w ≡ 0 → (after_stroke w byte).now.at ≡ suc w.now.at
unfolding after_stroke
taken-later w byte e = rw (e, after_stroke)

-- "which is 1 plus the starts taken off", at most one of each stage
pub taken-few : (w : Matcher) (byte : ℕ) → stroke_refusal w ≡ 0 → (stroke_answer w byte).comparisons ≤ most_comparisons
taken-few w byte e =
    omega (arith, ceiling w byte, levels-bound w.signature.length (card-of (sound w (taken-fits w e))).short)

-- How t, the comparisons and the bytes taken hang together in a run of strokes; with room for the notes of one byte, a byte is taken or refused.
pub record Ran (size used : ℕ) (w : Matcher) (bytes : List ℕ) (r : Scanned) : Type 0 where
  pub later : r.matcher.now.at ≡ w.now.at + r.taken
  pub within : w.now.at ≤ max_taken → r.matcher.now.at ≤ max_taken
  pub few : r.comparisons ≤ most_comparisons * r.taken
  pub moves : used + note_room ≤ size → 0 < length bytes → r.refusal ≡ 0 → 0 < r.taken

pub ran : (size used : ℕ) (w : Matcher) (bytes : List ℕ) → Ran size used w bytes (scanned size used w bytes)
unfolding scanned
ran size used w [] = record { later = omega arith; within = λ l. l; few = omega arith; moves = λ r l z. l }
ran size used w (byte ∷ bytes) =
    by-test (room_for size used)
    (λ r. by-test (eqb (stroke_refusal w) 0)
    (λ e.
    let z = eqb-true (stroke_refusal w) 0 e in
    let q = ran size (used + length (notes_at w byte)) (after_stroke w byte) bytes in
    rw (r, scanned, e)
    (record {
      later = omega (arith, q.later, taken-later w byte z);
      within = λ l. q.within (omega (arith, taken-later w byte z, taken-below w z));
      few = omega (arith, q.few, taken-few w byte z);
      moves = λ r l n. omega arith;
    }))
    (λ e. rw (r, scanned, e)
    (record {
      later = omega arith;
      within = λ l. l;
      few = omega arith;
      moves = λ r l n. absurd (eqb-false (stroke_refusal w) 0 e n);
    })))
    (λ r. rw (r, scanned)
    (record {
      later = omega arith;
      within = λ l. l;
      few = omega arith;
      moves = λ l m n. absurd (true≢false (sym (le-leb (used + note_room) size l) ∙ r));
    }))
