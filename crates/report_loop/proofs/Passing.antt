-- The turns of `pass`: the lines of the bytes taken were written, piece by piece, and counted.
-- Assumes nothing.
use Prim.Native.Nat.{ℕ, ◌+◌, ◌-◌, ◌≤◌, ◌<◌}
use mathlib.Core.Path.{◌≡◌, refl, sym, ◌∙◌, ap}
use mathlib.Core.Bool.{Bool, true, false, ◌&&◌, cond}
use mathlib.Core.List.{List, [], ◌++◌, append-nil}
use native.Mathlib.Decide.{dec_lt}
use native.Mathlib.Omega.{arith}
use lib.Dec.{eqb}
use lib.ListN.{length, take, drop, length-append, length-drop, drop_of_length-le}
use lib.Seq.{drop-drop, take_all}
use borrow.Author.Tests.{le-leb, ne_eqb}
use Rattle.refusal.specs.Number.{number}
use Rattle.report_lines.specs.Lines.{room}
use Rattle.report_core.specs.declared.Progress.{Progress}
use Rattle.report_core.specs.declared.Fed.{Fed}
use Rattle.report_core.specs.Progress.{Heard, stopped, behind, heard_while, heard, room_in, fed}
use Rattle.report_core.specs.Calls.{Feeds}
use Rattle.report_core.proofs.Hearing.{heard-by, behind-behind, heard-moves, heard-within, heard-later, heard-none, heard-fits, heard-piece}
use Rattle.report_core.proofs.Feeding.{fed-on}
use Rattle.report_loop.specs.declared.State.{State}
use Rattle.report_loop.specs.State.{buffer_size, Sound, Went}

and_true : (b : Bool) → b && true ≡ b
and_true true = refl
and_true false = refl

and_false : (b : Bool) → b && false ≡ false
and_false true = refl
and_false false = refl

-- the part of a chunk from a place on, as it is lent
pub all_of : (n : ℕ) (xs : List ℕ) → take (length xs - n) (drop n xs) ≡ drop n xs
all_of n xs = take_all (length xs - n) (drop n xs) (rw length-drop (omega arith))

-- How far the turns have come: at first p₀ and so many bytes written; now p, so many bytes of the chunk taken and so many written.
pub record Along (p₀ : Progress) (before : ℕ) (chunk : List ℕ) (p : Progress) (next written : ℕ) : Type 0 where
  pub said : List ℕ
  pub same : heard p₀ chunk ≡ behind next said (heard p (drop next chunk))
  pub count : written ≡ before + length said
  pub sound : Sound p written
  pub within : next ≤ length chunk

pub along-begin : (p : Progress) (before : ℕ) (chunk : List ℕ) → Sound p before → Along p before chunk p 0 before
along-begin p before chunk s =
    record { said = []; same = heard-by refl (omega arith) refl refl; count = omega arith; sound = s; within = omega arith }

module _ (p₀ : Progress) (before : ℕ) (chunk : List ℕ) (p : Progress) (next written : ℕ) (a : Along p₀ before chunk p next written)
    (more : next < length chunk) (entry : List ℕ) (size : buffer_size ≡ length entry) (r : Fed) (exit : List ℕ)
    (lent : Feeds (fed (length entry) p (take (length chunk - next) (drop next chunk))) entry r exit)
    (kept : length exit ≡ length entry) where
  abbrev f : Feeds (fed (length entry) p (drop next chunk)) entry r exit
  f = rw all_of at lent

  -- what the call of feed brought
  abbrev piece : Heard
  piece = heard_while (room_in (length entry)) 0 p (drop next chunk)

  fed-here : fed (length entry) p (drop next chunk) ≡ piece
  fed-here = fed-on (length entry) p (drop next chunk) a.sound.fits (omega arith)

  roomy : room_in (length entry) 0 ≡ true
  roomy = le-leb (0 + room) (length entry) (omega arith)

  pub used-within : r.used ≤ length exit
  used-within = omega (arith, f.used, simp length-append at (ap length f.buffer))

  pub taken-within : next + r.taken ≤ length chunk
  taken-within =
      let within = heard-within (room_in (length entry)) 0 p (drop next chunk) in
      omega (arith, f.taken, ap (λ h. h.taken) fed-here, within, length-drop next chunk)

  pub moves : number r.verdict ≡ 0 → next < next + r.taken
  moves z =
      let none = ap (λ h. h.refusal) (sym fed-here) ∙ sym f.verdict ∙ z in
      let some = heard-moves (room_in (length entry)) 0 p (drop next chunk) roomy (rw length-drop (omega arith)) none in
      omega (arith, f.taken, ap (λ h. h.taken) fed-here)

  -- t has risen by the bytes taken
  pub later : r.progress.matcher.now.at ≡ p.matcher.now.at + r.taken
  later = rw (f.progress, f.taken, fed-here) (heard-later (room_in (length entry)) 0 p (drop next chunk))

  pub sound : Sound r.progress (written + r.used)
  sound =
      record {
        fits = rw (f.progress, fed-here) (heard-fits (room_in (length entry)) 0 p (drop next chunk) a.sound.fits);
        few =
            elim (dec_lt 0 r.taken) [
              | yes l ↦ omega (arith, used-within, later, a.sound.few)
              | no l ↦
                  let none : piece.taken ≡ 0 = omega (arith, f.taken, ap (λ h. h.taken) fed-here) in
                  omega (
                    arith,
                    f.used,
                    ap (λ h. length h.lines) fed-here,
                    ap length (heard-none (room_in (length entry)) 0 p (drop next chunk) none),
                    later,
                    a.sound.few,
                  )
            ];
      }

  pub turned :
      heard p₀ chunk
      ≡ behind (next + r.taken) (a.said ++ (fed (length entry) p (drop next chunk)).lines)
      (cond (eqb (number r.verdict) 0) (heard r.progress (drop (next + r.taken) chunk)) (stopped r.progress (number r.verdict)))
  turned =
      rw (f.verdict, f.progress, f.taken, fed-here, ← drop-drop piece.taken next chunk)
      (a.same
      ∙ ap (behind next a.said) (heard-piece (room_in (length entry)) 0 p (drop next chunk))
      ∙ behind-behind next piece.taken a.said piece.lines _)

  count : written + r.used ≡ before + length (a.said ++ (fed (length entry) p (drop next chunk)).lines)
  count = rw length-append (omega (arith, a.count, f.used))

  -- a turn that nothing ends
  pub on : number r.verdict ≡ 0 → Along p₀ before chunk r.progress (next + r.taken) (written + r.used)
  on z =
      record {
        said = a.said ++ (fed (length entry) p (drop next chunk)).lines;
        same = rw z at turned;
        count = count;
        sound = sound;
        within = taken-within;
      }

  -- a turn that a refusal ends
  pub refused :
      (from s : State)
      → (number r.verdict ≡ 0 → ⊥)
      → s.verdict ≡ r.verdict
      → s.progress ≡ r.progress
      → s.counts.written ≡ written + r.used
      → s.counts.read ≡ from.counts.read
      → s.more ≡ false
      → from.progress ≡ p₀
      → from.counts.written ≡ before
      → Went from chunk s
  refused from s n v q w k m fp fw =
      let all = rw (ne_eqb (number r.verdict) 0 n) at turned in
      record {
        took =
            rw (fp, fw)
            (record {
              verdict = rw (all, v);
              progress = rw (all, q);
              written = rw (all, append-nil, w) count;
              sound = rw (q, w) sound;
            });
        read = k;
        goes = m ∙ sym (rw (v, ne_eqb (number r.verdict) 0 n) (and_false from.more));
      }

-- the chunk is used up
pub used-up :
    (from : State) (chunk : List ℕ) (p : Progress) (next written : ℕ) (s : State)
    → Along from.progress from.counts.written chunk p next written
    → length chunk ≤ next
    → number s.verdict ≡ 0
    → s.progress ≡ p
    → s.counts.written ≡ written
    → s.counts.read ≡ from.counts.read
    → s.more ≡ from.more
    → Went from chunk s
unfolding heard_while
used-up from chunk p next written s a l v q w k m =
    let none : heard p (drop next chunk) ≡ stopped p 0 = rw (drop_of_length-le chunk l) in
    let all = a.same ∙ ap (behind next a.said) none in
    record {
      took =
          record {
            verdict = rw all v;
            progress = rw all q;
            written = rw (all, append-nil, w) a.count;
            sound = rw (q, w) a.sound;
          };
      read = k;
      goes = rw v (m ∙ sym (and_true from.more));
    }
