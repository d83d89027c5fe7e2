-- A scan is a list of strokes: it ends where the strokes of the bytes that it took end, and demand 3 holds of it as of them.
-- Assumes nothing.
use Prim.Native.Nat.{ℕ, suc, ◌+◌}
use mathlib.Core.Path.{◌≡◌, refl, sym, ◌∙◌, ap}
use mathlib.Core.List.{List, [], ◌∷◌, ◌++◌, append-nil, append_assoc}
use native.Mathlib.Omega.{arith}
use borrow.Author.Tests.{eqb-true}
use lib.Dec.{eqb}
use lib.ListN.{length, take}
use Rattle.lists.specs.Lists.{Bytes}
use Rattle.lists.proofs.Cases.{by-test}
use Rattle.signature.specs.declared.Signature.{Signature}
use Rattle.matcher.specs.declared.Matcher.{Matcher}
use Rattle.matcher.specs.Stroke.{stroke_refusal, stroke_answer, after_stroke}
use Rattle.notes.specs.Notes.{room_for}
use Rattle.scanner.specs.Scan.{notes_at, scanned}
use Rattle.matcher.proofs.Sound.{after-taken}
use Rattle.whole_run.specs.History.{History}
use Rattle.whole_run.specs.Run.{Call, core, stroke, Run, takes}
use Rattle.whole_run.specs.Strokes.{strokes, struck, notes_from, total_of}

module _ (card : Signature) where
  -- Where a list that stood at w, with history h, stands once bytes were struck.
  abbrev Struck : List Call → Matcher → History → List ℕ → Matcher → Type 0
  Struck calls w h bytes end = Run card (calls ++ strokes bytes) end (h ++ struck w bytes)

  none-struck : (calls : List Call) (w : Matcher) (h : History) → Run card calls w h → Struck calls w h [] w
  none-struck calls w h run = rw (append-nil calls, append-nil h) run

  one_more :
      (calls : List Call) (w : Matcher) (h : History) (byte : ℕ) (bytes : List ℕ) (end : Matcher)
      → Struck
      (calls ++ stroke core byte ∷ [])
      (after_stroke w byte)
      (h ++ record { byte = byte; answer = stroke_answer w byte } ∷ [])
      bytes
      end
      → Struck calls w h (byte ∷ bytes) end
  one_more calls w h byte bytes end run =
      rw (
        append_assoc calls (stroke core byte ∷ []) (strokes bytes),
        append_assoc h (record { byte = byte; answer = stroke_answer w byte } ∷ []) (struck (after_stroke w byte) bytes),
      ) at run

  -- The scan of a watch at which a list stands: the list goes on with the strokes of the bytes that were taken.
  pub scan-run :
      (size used : ℕ) (calls : List Call) (w : Matcher) (h : History) (bytes : List ℕ)
      → Bytes bytes
      → Run card calls w h
      → Run card
      (calls ++ strokes (take (scanned size used w bytes).taken bytes))
      (scanned size used w bytes).matcher
      (h ++ struck w (take (scanned size used w bytes).taken bytes))
  unfolding scanned
  scan-run size used calls w h [] all run = none-struck calls w h run
  scan-run size used calls w h (byte ∷ bytes) all run =
      by-test (room_for size used)
      (λ r. by-test (eqb (stroke_refusal w) 0)
      (λ e.
      let noted : ℕ = used + length (notes_at w byte) in
      let next = takes core byte (all 0 (omega arith)) run (eqb-true _ _ e) in
      let later = scan-run size noted _ (after_stroke w byte) _ bytes (λ i l. all (suc i) (omega arith)) next in
      rw (r, e) (one_more calls w h byte (take (scanned size noted (after_stroke w byte) bytes).taken bytes) _ later))
      (λ e. rw (r, e) (none-struck calls w h run)))
      (λ r. rw r (none-struck calls w h run))

-- t rises by one at a byte that is taken
later : (w : Matcher) (byte : ℕ) → stroke_refusal w ≡ 0 → (after_stroke w byte).now.at ≡ suc w.now.at
later w byte e = ap (λ (v : Matcher). v.now.at) (after-taken w byte e)

-- It notes the answers given at those bytes, each with its t: none is lost and none invented.
pub scan-reports :
    (size used : ℕ) (w : Matcher) (bytes : List ℕ)
    → notes_from w.now.at (struck w (take (scanned size used w bytes).taken bytes)) ≡ (scanned size used w bytes).notes
unfolding scanned
scan-reports size used w [] = refl
scan-reports size used w (byte ∷ bytes) =
    by-test (room_for size used)
    (λ r. by-test (eqb (stroke_refusal w) 0)
    (λ e.
    let noted : ℕ = used + length (notes_at w byte) in
    let h : History = struck (after_stroke w byte) (take (scanned size noted (after_stroke w byte) bytes).taken bytes) in
    let here : notes_from (suc w.now.at) h ≡ notes_from (after_stroke w byte).now.at h =
    ap (λ (t : ℕ). notes_from t h) (sym (later w byte (eqb-true _ _ e))) in
    rw (r, e) (ap (λ l. notes_at w byte ++ l) (here ∙ scan-reports size noted (after_stroke w byte) bytes)))
    (λ e. rw (r, e)))
    (λ r. rw r)

-- and all their comparisons
pub scan-total :
    (size used : ℕ) (w : Matcher) (bytes : List ℕ)
    → total_of (struck w (take (scanned size used w bytes).taken bytes)) ≡ (scanned size used w bytes).comparisons
unfolding scanned
scan-total size used w [] = refl
scan-total size used w (byte ∷ bytes) =
    by-test (room_for size used)
    (λ r. by-test (eqb (stroke_refusal w) 0)
    (λ e. rw (r, e)
    (ap (λ (n : ℕ). (stroke_answer w byte).comparisons + n) (scan-total size (used + length (notes_at w byte)) (after_stroke w byte) bytes)))
    (λ e. rw (r, e)))
    (λ r. rw r)
