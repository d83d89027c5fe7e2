-- What bytes bring: scan by scan as `feed` takes them, and what of it is printed and kept.
-- Assumes nothing.
use Prim.Native.Nat.{ℕ, suc, ◌+◌, ◌*◌, ◌≤◌, ◌<◌}
use mathlib.Core.Path.{◌≡◌, refl, sym, ◌∙◌, ap}
use mathlib.Core.Bool.{Bool, true, false, cond}
use mathlib.Core.List.{List, [], ◌∷◌, ◌++◌, append_assoc}
use native.Mathlib.Nat.{add_assoc, add-zero}
use native.Mathlib.Omega.{arith}
use lib.Dec.{eqb}
use lib.ListN.{length, drop, get_or, length-append, get_or-append}
use lib.Seq.{get_or-append-add}
use borrow.Author.Tests.{eqb-true, eqb-false, leb-true, le-leb}
use Rattle.lists.proofs.Cases.{by-test}
use Rattle.lists.proofs.Laws.{and_left, and_right, and_both}
use Rattle.stage.specs.Stage.{max_taken}
use Rattle.matcher.specs.declared.Matcher.{Matcher}
use Rattle.matcher.specs.Matcher.{matcher_fits}
use Rattle.matcher.specs.Stroke.{stroke_refusal, stroke_answer, after_stroke}
use Rattle.notes.specs.Notes.{note_size, note_room, room_for}
use Rattle.scanner.specs.Scan.{notes_at, halted, Scanned, scanned, scan_of}
use Rattle.scanner.specs.Scan as scan
use Rattle.matcher.proofs.Sound.{sound}
use Rattle.matcher.proofs.StrokeFits.{stroke-fits}
use Rattle.decimal.specs.Decimal.{put_limit}
use Rattle.report_lines.specs.Sizes.{most_line}
use Rattle.report_lines.specs.Lines.{room, note_lines}
use Rattle.report_lines.proofs.Notes.{answer-lines, notes-lines, lines-length}
use Rattle.report_core.specs.declared.Progress.{Progress}
use Rattle.report_core.specs.Output.{refused_lines, transcript}
use Rattle.report_core.specs.Progress.{progress_fits, onward, lines_at, Heard, stopped, behind, heard_while, heard, room_in, pending}
use Rattle.report_core.proofs.Transcript.{taken-later, taken-few}

pub heard-by :
    {g h : Heard}
    → g.progress ≡ h.progress
    → g.taken ≡ h.taken
    → g.lines ≡ h.lines
    → g.refusal ≡ h.refusal
    → g ≡ h
heard-by p t l r = λ i. record { progress = p i; taken = t i; lines = l i; refusal = r i }

pub progress-by : {p q : Progress} → p.matcher ≡ q.matcher → p.total ≡ q.total → p ≡ q
progress-by m t = λ i. record { matcher = m i; total = t i }

-- behind some bytes, what comes behind others
pub behind-behind :
    (n m : ℕ) (l k : List ℕ) (h : Heard) → behind n l (behind m k h) ≡ behind (n + m) (l ++ k) h
behind-behind n m l k h = heard-by refl (omega arith) (sym (append_assoc l k h.lines)) refl

-- the progress behind a scan
abbrev pub behind_scan : Progress → Scanned → Progress
behind_scan p s = record { matcher = s.matcher; total = p.total + s.comparisons }

-- a call of scan that is lent enough judges the watch as its first stroke does
pub scan-same :
    (size : ℕ) (w : Matcher) (byte : ℕ) (bytes : List ℕ)
    → note_room ≤ size
    → scan_of size w (byte ∷ bytes) ≡ scanned size 0 w (byte ∷ bytes)
unfolding scan_of scanned
scan-same size w byte bytes l =
    let roomy = le-leb (0 + note_room) size (omega arith) in
    by-test (matcher_fits w) (λ e. rw (e, roomy)) (λ e. rw (e, scanned, roomy))

-- t of a progress that is no misfit has a limit
pub fits-within : (p : Progress) → progress_fits p ≡ true → p.matcher.now.at ≤ max_taken
fits-within p f = (sound p.matcher (and_left (matcher_fits p.matcher) _ f)).within

-- one byte keeps a progress from misfitting
onward-fits : (p : Progress) (byte : ℕ) → progress_fits p ≡ true → stroke_refusal p.matcher ≡ 0 → progress_fits (onward p byte) ≡ true
onward-fits p byte f e =
    and_both (stroke-fits p.matcher byte e)
    (le-leb (onward p byte).total _
    (omega (
      arith,
      leb-true p.total _ (and_right (matcher_fits p.matcher) _ f),
      taken-later p.matcher byte e,
      taken-few p.matcher byte e,
    )))

-- one place further, a byte earlier
drop-further : (n byte : ℕ) (bytes : List ℕ) → drop (1 + n) (byte ∷ bytes) ≡ drop n bytes
drop-further n byte bytes = let e : 1 + n ≡ suc n = omega arith in rw e

-- what is still to be printed, where nothing was refused and where something was
pub pending-on : (p : Progress) (bytes : List ℕ) → pending 0 p bytes ≡ transcript p.matcher p.total bytes
unfolding pending
pending-on p bytes = refl

pub pending-refused :
    (refusal : ℕ) (p : Progress) (bytes : List ℕ)
    → eqb refusal 0 ≡ false
    → pending refusal p bytes ≡ refused_lines refusal p.matcher p.total
unfolding pending
pending-refused refusal p bytes e = rw e

-- A scan that is lent a list of so many numbers, of which some are used, beside a buffer of so many bytes. The notes of a byte are not longer than
-- 21 notes, and their lines not longer than as many of the longest lines. So where the scan takes a byte, there is room for its lines.
module _ (size cap : ℕ) where
  -- the free bytes are enough for as many of the longest lines as the free numbers can be notes, and for the lines of one byte
  abbrev pub Enough : ℕ → ℕ → Type 0
  Enough used noted = note_size * (used + room) + most_line * cap ≤ note_size * size + most_line * (note_room + noted)

  abbrev pub Small : List ℕ → Type 0
  Small notes = (i : ℕ) → i < length notes → get_or notes i 0 < put_limit

  small-front : (xs ys : List ℕ) → Small (xs ++ ys) → Small xs
  small-front xs ys h i l = rw (get_or-append xs ys 0 i l) at (h i (rw length-append (omega arith)))

  small-rest : (xs ys : List ℕ) → Small (xs ++ ys) → Small ys
  small-rest xs ys h i l = rw (get_or-append-add xs ys i 0) at (h (length xs + i) (rw length-append (omega arith)))

  -- what comes behind a scan
  abbrev pub after_scan : ℕ → Progress → List ℕ → Scanned → Heard
  after_scan used p bytes s =
      cond (eqb s.refusal 0)
      (heard_while (room_in size) (used + length (note_lines s.notes)) (behind_scan p s) (drop s.taken bytes))
      (stopped (behind_scan p s) s.refusal)

  -- nothing is noted, and nothing taken
  stays :
      (used : ℕ) (p : Progress) (bytes : List ℕ)
      → heard_while (room_in size) used p bytes ≡ behind 0 (note_lines []) (after_scan used p bytes (halted p.matcher 0))
  unfolding note_lines
  stays used p bytes = rw (add-zero, add-zero) (heard-by refl (omega arith) refl refl)

  -- the lines of the notes of a byte
  noted-lines :
      (p : Progress) (byte : ℕ)
      → Small (notes_at p.matcher byte)
      → note_size * length (lines_at p byte) ≤ most_line * length (notes_at p.matcher byte)
  noted-lines p byte h =
      rw (notes-lines (suc p.matcher.now.at) (stroke_answer p.matcher byte)) at (lines-length (notes_at p.matcher byte) h)

  -- what bytes bring is what a scan of them takes, and then what comes behind it
  abbrev HeardAs : List ℕ → ℕ → Progress → Scanned → Type 0
  HeardAs bytes used p s =
      heard_while (room_in size) used p bytes ≡ behind s.taken (note_lines s.notes) (after_scan used p bytes s)

  abbrev ScansAll : List ℕ → Type 0
  ScansAll bytes =
      (used noted : ℕ) (p : Progress)
      → Enough used noted
      → Small (scanned cap noted p.matcher bytes).notes
      → HeardAs bytes used p (scanned cap noted p.matcher bytes)

  module _ (byte : ℕ) (bytes : List ℕ) (used noted : ℕ) (p : Progress) (roomy : room_in size used ≡ true) where
    -- the byte is refused
    halts : (n : ℕ) → stroke_refusal p.matcher ≡ n → eqb n 0 ≡ false → HeardAs (byte ∷ bytes) used p (halted p.matcher n)
    unfolding heard_while note_lines
    halts n f e = rw (roomy, f, e, add-zero) (heard-by refl (omega arith) refl refl)

    -- the byte is taken, and others behind it
    goes :
        (s : Scanned)
        → stroke_refusal p.matcher ≡ 0
        → HeardAs bytes (used + length (lines_at p byte)) (onward p byte) s
        → HeardAs (byte ∷ bytes) used p (scan.onward (notes_at p.matcher byte) (stroke_answer p.matcher byte).comparisons s)
    unfolding heard_while
    goes s e h =
        rw (
          roomy,
          e,
          answer-lines (suc p.matcher.now.at) (stroke_answer p.matcher byte) s.notes,
          length-append (lines_at p byte) (note_lines s.notes),
          ← add_assoc used (length (lines_at p byte)),
          ← add_assoc p.total (stroke_answer p.matcher byte).comparisons,
        )
        (ap (behind 1 (lines_at p byte)) h ∙ heard-by refl (omega arith) (sym (append_assoc (lines_at p byte) (note_lines s.notes) _)) refl)

  scans-more : (byte : ℕ) (bytes : List ℕ) → ScansAll bytes → ScansAll (byte ∷ bytes)
  unfolding scanned
  scans-more byte bytes more used noted p enough =
      let w : Matcher = p.matcher in
      by-test (room_for cap noted)
      (λ r.
      let roomy : room_in size used ≡ true = le-leb (used + room) size (omega (arith, leb-true (noted + note_room) cap r)) in
      by-test (eqb (stroke_refusal w) 0)
      (λ e. rw (r, e)
      (λ small.
      let n = notes_at w byte in
      let rest = scanned cap (noted + length n) (after_stroke w byte) bytes in
      let lines = noted-lines p byte (small-front n rest.notes small) in
      goes byte bytes used noted p roomy rest (eqb-true _ _ e)
      (more (used + length (lines_at p byte)) (noted + length n) (onward p byte) (omega (arith, lines)) (small-rest n rest.notes small))))
      (λ e. rw (r, e) (λ small. halts byte bytes used noted p roomy (stroke_refusal w) refl e)))
      (λ r. rw r (λ small. stays used p (byte ∷ bytes)))

  pub heard-scan : (bytes : List ℕ) → ScansAll bytes
  unfolding scanned
  heard-scan [] = λ used noted p enough small. stays used p []
  heard-scan (byte ∷ bytes) = scans-more byte bytes (heard-scan bytes)

module _ (roomy : ℕ → Bool) where
  -- with room, a byte is taken or refused
  pub heard-moves :
      (used : ℕ) (p : Progress) (bytes : List ℕ)
      → roomy used ≡ true
      → 0 < length bytes
      → (heard_while roomy used p bytes).refusal ≡ 0
      → 0 < (heard_while roomy used p bytes).taken
  unfolding heard_while
  heard-moves used p [] r l = λ z. absurd (omega arith)
  heard-moves used p (byte ∷ bytes) r l =
      by-test (eqb (stroke_refusal p.matcher) 0)
      (λ e. rw (r, e) (λ z. omega arith))
      (λ e. rw (r, e) (λ z. absurd (eqb-false _ _ e z)))

  -- no more bytes are taken than there are, and t rises by those taken
  pub heard-within : (used : ℕ) (p : Progress) (bytes : List ℕ) → (heard_while roomy used p bytes).taken ≤ length bytes
  unfolding heard_while
  heard-within used p [] = omega arith
  heard-within used p (byte ∷ bytes) =
      by-test (roomy used)
      (λ r. by-test (eqb (stroke_refusal p.matcher) 0)
      (λ e. rw (r, e) (omega (arith, heard-within (used + length (lines_at p byte)) (onward p byte) bytes)))
      (λ e. rw (r, e) (omega arith)))
      (λ r. rw r (omega arith))

  pub heard-later :
      (used : ℕ) (p : Progress) (bytes : List ℕ)
      → (heard_while roomy used p bytes).progress.matcher.now.at ≡ p.matcher.now.at + (heard_while roomy used p bytes).taken
  unfolding heard_while
  heard-later used p [] = omega arith
  heard-later used p (byte ∷ bytes) =
      by-test (roomy used)
      (λ r. by-test (eqb (stroke_refusal p.matcher) 0)
      (λ e. rw (r, e)
      (omega (arith, heard-later (used + length (lines_at p byte)) (onward p byte) bytes, taken-later p.matcher byte (eqb-true _ _ e))))
      (λ e. rw (r, e) (omega arith)))
      (λ r. rw r (omega arith))

  -- no byte, no lines
  pub heard-none :
      (used : ℕ) (p : Progress) (bytes : List ℕ)
      → (heard_while roomy used p bytes).taken ≡ 0
      → (heard_while roomy used p bytes).lines ≡ []
  unfolding heard_while
  heard-none used p [] = λ z. refl
  heard-none used p (byte ∷ bytes) =
      by-test (roomy used)
      (λ r. by-test (eqb (stroke_refusal p.matcher) 0) (λ e. rw (r, e) (λ z. absurd (omega arith))) (λ e. rw (r, e) (λ z. refl)))
      (λ r. rw r (λ z. refl))

  -- a progress that is no misfit stays none
  pub heard-fits :
      (used : ℕ) (p : Progress) (bytes : List ℕ)
      → progress_fits p ≡ true
      → progress_fits (heard_while roomy used p bytes).progress ≡ true
  unfolding heard_while
  heard-fits used p [] f = f
  heard-fits used p (byte ∷ bytes) f =
      by-test (roomy used)
      (λ r. by-test (eqb (stroke_refusal p.matcher) 0)
      (λ e. rw (r, e) (heard-fits (used + length (lines_at p byte)) (onward p byte) bytes (onward-fits p byte f (eqb-true _ _ e))))
      (λ e. rw (r, e) f))
      (λ r. rw r f)

  -- what was to be printed is what bytes bring and then what is still to be printed
  pub heard-lines :
      (used : ℕ) (p : Progress) (bytes rest : List ℕ)
      → transcript p.matcher p.total (bytes ++ rest)
      ≡ (heard_while roomy used p bytes).lines
      ++ pending (heard_while roomy used p bytes).refusal (heard_while roomy used p bytes).progress
      (drop (heard_while roomy used p bytes).taken bytes ++ rest)
  unfolding heard_while transcript
  heard-lines used p [] rest = sym (pending-on p rest)
  heard-lines used p (byte ∷ bytes) rest =
      by-test (roomy used)
      (λ r. by-test (eqb (stroke_refusal p.matcher) 0)
      (λ e. rw (r, e, transcript, append_assoc, drop-further)
      (ap (λ l. lines_at p byte ++ l) (heard-lines (used + length (lines_at p byte)) (onward p byte) bytes rest)))
      (λ e. rw (r, e, transcript) (sym (pending-refused (stroke_refusal p.matcher) p (byte ∷ bytes ++ rest) e))))
      (λ r. rw r (sym (pending-on p (byte ∷ bytes ++ rest))))

-- With room for every line it does not matter where the lines stand.
heard-anywhere :
    (u v : ℕ) (p : Progress) (bytes : List ℕ)
    → heard_while (λ used. true) u p bytes ≡ heard_while (λ used. true) v p bytes
unfolding heard_while
heard-anywhere u v p [] = refl
heard-anywhere u v p (byte ∷ bytes) =
    rw (heard-anywhere (u + length (lines_at p byte)) (v + length (lines_at p byte)) (onward p byte) bytes)

-- What bytes bring with room for every line, piece by piece.
module _ (roomy : ℕ → Bool) where
  pub heard-piece :
      (used : ℕ) (p : Progress) (bytes : List ℕ)
      → let h = heard_while roomy used p bytes in
      heard p bytes
      ≡ behind h.taken h.lines
      (cond (eqb h.refusal 0) (heard h.progress (drop h.taken bytes)) (stopped h.progress h.refusal))
  unfolding heard_while
  heard-piece used p [] = refl
  heard-piece used p (byte ∷ bytes) =
      by-test (roomy used)
      (λ r. by-test (eqb (stroke_refusal p.matcher) 0)
      (λ e. rw (r, e, drop-further)
      (ap (behind 1 (lines_at p byte))
      (heard-anywhere (0 + length (lines_at p byte)) 0 (onward p byte) bytes
      ∙ heard-piece (used + length (lines_at p byte)) (onward p byte) bytes)
      ∙ behind-behind 1 _ (lines_at p byte) _ _))
      (λ e. rw (r, e, e)))
      (λ r. rw r (heard-by refl (omega arith) refl refl))
