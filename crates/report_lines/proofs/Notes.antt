-- The lines of notes: those of an answer's notes are the answer's lines; note after note; and how long they are.
-- Assumes nothing.
use Prim.Native.Nat.{ℕ, suc, ◌+◌, ◌*◌, ◌/◌, ◌≤◌, ◌<◌}
use mathlib.Core.Path.{◌≡◌, refl, sym, ◌∙◌, ap}
use mathlib.Core.List.{List, [], ◌∷◌, ◌++◌, flat_map, append-nil, append_assoc}
use native.Mathlib.Omega.{arith}
use lib.ListN.{length, take, drop, get_or, length-append}
use lib.Seq.{sets-eq}
use borrow.Author.Tests.{le-leb, lt-leb}
use mathlib.Core.Bool.{cond}
use lib.Dec.{eqb}
use Rattle.lists.specs.Stored.{Stored}
use Rattle.lists.proofs.Cases.{by-test}
use Rattle.lists.proofs.Storing.{nothing, run, at_most}
use Rattle.stage.specs.declared.Progression.{Progression}
use Rattle.std.proofs.Common.{Option, None, Some}
use Rattle.walk.specs.declared.Answer.{Answer}
use Rattle.notes.specs.Notes.{note_size, set_note, ring_notes, notes_of}
use Rattle.decimal.specs.Decimal.{put_limit}
use Rattle.report_lines.specs.Sizes.{most_line}
use Rattle.report_lines.specs.Lines.{line, line_a, ring_lines, report_lines, note_line, note_lines, notes_placed, notes_written}
use Rattle.report_lines.proofs.Room.{aside-length, ring-length}

ring-lines : (t : ℕ) (ring : Option ℕ) (notes : List ℕ) → note_lines (ring_notes t ring ++ notes) ≡ ring_lines t ring ++ note_lines notes
unfolding note_lines
ring-lines t None notes = refl
ring-lines t (Some start) notes = refl

set_lines :
    (t : ℕ) (sets : List Progression) (notes : List ℕ)
    → note_lines (flat_map (set_note t) sets ++ notes) ≡ flat_map (line_a t) sets ++ note_lines notes
unfolding note_lines flat_map
set_lines t [] notes = refl
set_lines t (x ∷ sets) notes =
    ap (λ l. line_a t x ++ l) (set_lines t sets notes) ∙ sym (append_assoc (line_a t x) (flat_map (line_a t) sets) (note_lines notes))

-- the lines of an answer's notes, and of what stands behind them
pub answer-lines :
    (t : ℕ) (a : Answer) (notes : List ℕ) → note_lines (notes_of t a ++ notes) ≡ report_lines t a ++ note_lines notes
unfolding notes_of report_lines
answer-lines t a notes =
    let sets = take a.asides a.sets in
    rw (append_assoc (ring_notes t a.ring) (flat_map (set_note t) sets) notes, append_assoc (ring_lines t a.ring) (flat_map (line_a t) sets) (note_lines notes))
    (ring-lines t a.ring _ ∙ ap (λ l. ring_lines t a.ring ++ l) (set_lines t sets notes))

no_lines : note_lines [] ≡ []
unfolding note_lines
no_lines = refl

-- "`R t start` for a ring", "`A t first step many` for a set aside": the lines of an answer's notes are the answer's
pub notes-lines : (t : ℕ) (a : Answer) → note_lines (notes_of t a) ≡ report_lines t a
notes-lines t a =
    ap note_lines (sym (append-nil (notes_of t a))) ∙ answer-lines t a [] ∙ rw (no_lines, append-nil)

-- fewer numbers than a note has
few-lines : (notes : List ℕ) → length notes < note_size → note_lines notes ≡ []
unfolding note_lines
few-lines [] l = refl
few-lines (a ∷ []) l = refl
few-lines (a ∷ b ∷ []) l = refl
few-lines (a ∷ b ∷ c ∷ []) l = refl
few-lines (a ∷ b ∷ c ∷ d ∷ []) l = refl
few-lines (a ∷ b ∷ c ∷ d ∷ e ∷ notes) l = absurd (omega arith)

-- one note more
first-line : (note rest : List ℕ) → length note ≡ note_size → note_lines (note ++ rest) ≡ note_lines note ++ note_lines rest
unfolding note_lines
first-line [] rest l = absurd (omega arith)
first-line (a ∷ []) rest l = absurd (omega arith)
first-line (a ∷ b ∷ []) rest l = absurd (omega arith)
first-line (a ∷ b ∷ c ∷ []) rest l = absurd (omega arith)
first-line (a ∷ b ∷ c ∷ d ∷ []) rest l = absurd (omega arith)
first-line (a ∷ b ∷ c ∷ d ∷ e ∷ []) rest l = rw append-nil
first-line (a ∷ b ∷ c ∷ d ∷ e ∷ f ∷ note) rest l = absurd (omega arith)

-- the line of one note: its kind says which, and the numbers behind it are the line's, two of them or all
pub lone-line :
    (note : List ℕ)
    → length note ≡ note_size
    → note_lines note ≡ cond (eqb (get_or note 0 0) 0) (line 82 (take 2 (drop 1 note))) (line 65 (drop 1 note))
unfolding note_lines
lone-line [] l = absurd (omega arith)
lone-line (a ∷ []) l = absurd (omega arith)
lone-line (a ∷ b ∷ []) l = absurd (omega arith)
lone-line (a ∷ b ∷ c ∷ []) l = absurd (omega arith)
lone-line (a ∷ b ∷ c ∷ d ∷ []) l = absurd (omega arith)
lone-line (a ∷ b ∷ c ∷ d ∷ e ∷ []) l = append-nil _
lone-line (a ∷ b ∷ c ∷ d ∷ e ∷ f ∷ note) l = absurd (omega arith)

-- Note after note: the lines of the first notes stand in the buffer, and those of the rest come behind them.
pub record Putting (entry : List ℕ) (at : ℕ) (notes rest : List ℕ) (next : ℕ) (exit : List ℕ) : Type 0 where
  pub count : ℕ
  pub passed : note_size * count + length rest ≡ length notes
  pub said : List ℕ
  pub stored : Stored entry at said (most_line * count) next exit
  pub same : note_lines notes ≡ said ++ note_lines rest

pub put-none : (entry : List ℕ) (at : ℕ) (notes : List ℕ) → Putting entry at notes notes at entry
put-none entry at notes = record { count = 0; passed = omega arith; said = []; stored = nothing entry at; same = refl }

module _ (entry : List ℕ) (at : ℕ) (notes rest : List ℕ) (next : ℕ) (exit : List ℕ) (q : Putting entry at notes rest next exit) where
  pub put-more :
      (note later : List ℕ) (r : ℕ) (left : List ℕ)
      → rest ≡ note ++ later
      → length note ≡ note_size
      → Stored exit next (note_lines note) most_line r left
      → Putting entry at notes later r left
  put-more note later r left e l s =
      record {
        count = q.count + 1;
        passed = omega (arith, q.passed, ap length e, length-append note later);
        said = q.said ++ note_lines note;
        stored = at_most (omega arith) (run q.stored s);
        same =
            q.same
            ∙ ap (λ k. q.said ++ note_lines k) e
            ∙ ap (λ k. q.said ++ k) (first-line note later l)
            ∙ sym (append_assoc q.said (note_lines note) (note_lines later));
      }

  -- all of them
  pub put_all :
      length rest < note_size
      → at + most_line * (length notes / note_size) ≤ length entry
      → (Some next ≡ notes_placed entry at notes) × (exit ≡ notes_written entry at notes)
  unfolding notes_placed notes_written
  put_all e l =
      let all : note_lines notes ≡ q.said = q.same ∙ rw (few-lines rest e, append-nil) in
      rw (le-leb (at + most_line * (length notes / note_size)) (length entry) l, all)
      (ap Some q.stored.behind, q.stored.buffer ∙ sets-eq q.said entry at (omega (arith, q.passed, q.stored.within)))

-- without room nothing is put
pub put-nothing :
    (entry : List ℕ) (at : ℕ) (notes : List ℕ)
    → length entry < at + most_line * (length notes / note_size)
    → (None ≡ notes_placed entry at notes) × (entry ≡ notes_written entry at notes)
unfolding notes_placed notes_written
put-nothing entry at notes l = rw (lt-leb (at + most_line * (length notes / note_size)) (length entry) l) (refl, refl)

-- the line of a note whose numbers can be put
note-length :
    (kind t first step many : ℕ)
    → t < put_limit
    → first < put_limit
    → step < put_limit
    → many < put_limit
    → length (note_line kind t first step many) ≤ most_line
note-length kind t first step many ht hf hs hm =
    by-test (eqb kind 0)
    (λ e. rw e (ring-length t (Some first) ht (λ start p. let z : start ≡ first = cc in rw z hf)))
    (λ e. rw e (aside-length t (record { first = first; step = step; many = many }) ht (record { first = hf; step = hs; many = hm })))

-- Notes whose numbers can all be put have as many lines as there are notes, none longer than the longest.
pub lines-length :
    (notes : List ℕ)
    → ((i : ℕ) → i < length notes → get_or notes i 0 < put_limit)
    → note_size * length (note_lines notes) ≤ most_line * length notes
unfolding note_lines
lines-length [] h = omega arith
lines-length (a ∷ []) h = omega arith
lines-length (a ∷ b ∷ []) h = omega arith
lines-length (a ∷ b ∷ c ∷ []) h = omega arith
lines-length (a ∷ b ∷ c ∷ d ∷ []) h = omega arith
lines-length (kind ∷ t ∷ first ∷ step ∷ many ∷ notes) h =
    simp length-append
    (omega (
      arith,
      note-length kind t first step many (h 1 (omega arith)) (h 2 (omega arith)) (h 3 (omega arith)) (h 4 (omega arith)),
      lines-length notes (λ i l. h (suc (suc (suc (suc (suc i))))) (omega arith)),
    ))
