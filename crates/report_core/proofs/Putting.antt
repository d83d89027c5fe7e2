-- Lines that are put into a lent buffer: what the buffer holds then, where there is room, and where there is none.
-- Assumes nothing.
use Prim.Native.Nat.{ℕ, ◌+◌, ◌*◌, ◌≤◌, ◌<◌}
use mathlib.Core.Path.{◌≡◌, refl, sym, ◌∙◌, ap}
use mathlib.Core.List.{List, ◌++◌, append_assoc}
use native.Mathlib.Nat.{lt_of_not-le}
use native.Mathlib.Decide.{dec_le}
use native.Mathlib.Omega.{arith}
use lib.ListN.{length, take, drop, length-append, take-append-drop}
use lib.Seq.{drop-drop, take_at, drop_at, length-take-le}
use borrow.Author.Tests.{le-leb, lt-leb, ne_eqb}
use Rattle.decimal.specs.Decimal.{put_limit}
use Rattle.std.specs.Prelude.{Option, Some, None}
use Rattle.report_lines.specs.Lines.{line_x, line_e, room, placed, written}
use Rattle.report_lines.proofs.Room.{refusal-length}
use Rattle.report_core.specs.Calls.{last_lines, last_placed, last_written}

-- The lines stand at their place, behind what stood in front, and what stood behind them is as it was.
pub record PutAt (entry : List ℕ) (at : ℕ) (lines : List ℕ) (end : ℕ) (exit : List ℕ) : Type 0 where
  pub place : end ≡ at + length lines
  pub within : end ≤ length exit
  pub front : take end exit ≡ take at entry ++ lines
  pub behind : drop end exit ≡ drop end entry

module _ (entry : List ℕ) (at : ℕ) (lines : List ℕ) where
  pub laid :
      (exit : List ℕ)
      → at ≤ length entry
      → exit ≡ take at entry ++ lines ++ drop (at + length lines) entry
      → PutAt entry at lines (at + length lines) exit
  laid exit l e =
      let size : length (take at entry ++ lines) ≡ at + length lines =
      length-append (take at entry) lines ∙ omega (arith, length-take-le at entry l)
      in
      record {
        place = refl;
        within = rw (e, length-append) (omega arith);
        front = rw e (take_at (take at entry ++ lines) _ _ size);
        behind = rw e (drop_at (take at entry ++ lines) _ _ size);
      }

  -- where there is room
  module _ (r : at + room ≤ length entry) where
    pub placed-next : placed entry at lines ≡ Some (at + length lines)
    unfolding placed
    placed-next = rw (le-leb (at + room) (length entry) r)

    put-done : (exit : List ℕ) → exit ≡ written entry at lines → PutAt entry at lines (at + length lines) exit
    unfolding written
    put-done exit w = laid exit (omega arith) (rw (le-leb (at + room) (length entry) r) at w)

  -- and where there is none
  placed-full : length entry < at + room → placed entry at lines ≡ None
  unfolding placed
  placed-full l = rw (lt-leb (at + room) (length entry) l)

  pub put-at :
      (exit : List ℕ)
      → exit ≡ written entry at lines
      → (end : ℕ)
      → Some end ≡ placed entry at lines
      → PutAt entry at lines end exit
  put-at exit w end p =
      elim (dec_le (at + room) (length entry)) [
        | yes r ↦
            let e : at + length lines ≡ end = cc (placed-next r) in
            rw e at (put-done r exit w)
        | no r ↦ let z : ◌≡◌ {A = ℕ} 0 1 = cc (placed-full (lt_of_not-le r)) in absurd (omega arith)
      ]

-- more lines behind the first
put-again :
    (entry : List ℕ) (at : ℕ) (first second : List ℕ) (n end : ℕ) (middle exit : List ℕ)
    → PutAt entry at first n middle
    → PutAt middle n second end exit
    → PutAt entry at (first ++ second) end exit
put-again entry at first second n end middle exit a b =
    record {
      place = rw length-append (omega (arith, a.place, b.place));
      within = b.within;
      front = b.front ∙ rw (a.front, append_assoc);
      behind =
          b.behind
          ∙ rw (b.place, ← drop-drop (length second) n middle, ← drop-drop (length second) n entry) (ap (drop (length second)) a.behind);
    }

-- The last lines, where they have room and where not.
module _ (entry lines : List ℕ) where
  last-put :
      (end : ℕ) (exit : List ℕ) (put : Option ℕ)
      → 2 * room ≤ length entry
      → PutAt entry 0 lines end exit
      → put ≡ Some end
      → (put ≡ last_placed entry lines) × (exit ≡ last_written entry lines)
  unfolding last_placed last_written
  last-put end exit put r u e =
      let place : end ≡ length lines = omega (arith, u.place) in
      rw (le-leb (2 * room) (length entry) r)
      (e ∙ ap Some place, sym (take-append-drop end exit) ∙ rw (u.front, u.behind, place))

  pub last-at :
      (end : ℕ) (exit : List ℕ)
      → Some end ≡ last_placed entry lines
      → exit ≡ last_written entry lines
      → PutAt entry 0 lines end exit
  unfolding last_placed last_written
  last-at end exit p w =
      elim (dec_le (2 * room) (length entry)) [
        | yes r ↦
            let fits = le-leb (2 * room) (length entry) r in
            let p' = rw fits at p in
            let e : length lines ≡ end = cc in
            let z : 0 + length lines ≡ length lines = omega arith in
            rw e at (rw z at (laid entry 0 lines exit (omega arith) (rw z (rw fits at w))))
        | no r ↦
            let p' = rw (lt-leb (2 * room) (length entry) (lt_of_not-le r)) at p in
            let z : ◌≡◌ {A = ℕ} 0 1 = cc in
            absurd (omega arith)
      ]

  pub last-full : length entry < 2 * room → (None ≡ last_placed entry lines) × (entry ≡ last_written entry lines)
  unfolding last_placed last_written
  last-full l = rw (lt-leb (2 * room) (length entry) l) (refl, refl)

module _ (entry : List ℕ) (r : 2 * room ≤ length entry) where
  pub last_one :
      (lines exit : List ℕ) (put : Option ℕ)
      → put ≡ placed entry 0 lines
      → exit ≡ written entry 0 lines
      → (put ≡ last_placed entry lines) × (exit ≡ last_written entry lines)
  last_one lines exit put p w =
      last-put entry lines _ exit put r (put-done entry 0 lines (omega arith) exit w) (p ∙ placed-next entry 0 lines (omega arith))

  pub last-two :
      (n : ℕ) (second middle exit : List ℕ) (next : ℕ) (put : Option ℕ)
      → n < put_limit
      → Some next ≡ placed entry 0 (line_x n)
      → middle ≡ written entry 0 (line_x n)
      → length middle ≡ length entry
      → put ≡ placed middle next second
      → exit ≡ written middle next second
      → (put ≡ last_placed entry (line_x n ++ second)) × (exit ≡ last_written entry (line_x n ++ second))
  last-two n second middle exit next put h p w same q v =
      let first = put-at entry 0 (line_x n) middle w next p in
      let left : next + room ≤ length middle = omega (arith, refusal-length n h, first.place) in
      last-put entry (line_x n ++ second) _ exit put r
      (put-again entry 0 (line_x n) second next _ middle exit first (put-done middle next second left exit v))
      (q ∙ placed-next middle next second left)

-- the last lines, of a refusal
pub last-refused : (n t total : ℕ) → (n ≡ 0 → ⊥) → last_lines n t total ≡ line_x n ++ line_e t total
unfolding last_lines
last-refused n t total z = rw (ne_eqb n 0 z)

pub last-accepted : (t total : ℕ) → last_lines 0 t total ≡ line_e t total
unfolding last_lines
last-accepted t total = refl
