-- The lines of one byte fit the room where every number is one that can be put; the place behind lines in a buffer lies within it.
-- Assumes nothing.
use Prim.Native.Nat.{ℕ, suc, ◌+◌, ◌*◌, ◌≤◌, ◌<◌}
use mathlib.Core.Path.{◌≡◌, refl, ap}
use mathlib.Core.List.{List, [], ◌∷◌, flat_map}
use native.Mathlib.Nat.{lt_of_not-le}
use native.Mathlib.Decide.{dec_le}
use native.Mathlib.Omega.{arith}
use lib.ListN.{length, take, get_or, length-append, length-take, length-drop}
use lib.Seq.{get_or-take}
use borrow.Author.Tests.{le-leb, lt-leb}
use Rattle.std.proofs.Common.{Option, None, Some}
use Rattle.stage.specs.declared.Progression.{Progression}
use Rattle.walk.specs.declared.Answer.{Answer}
use Rattle.stage.specs.Stages.{stage_count}
use Rattle.report_lines.specs.Sizes.{most_item, most_line}
use Rattle.report_lines.specs.Lines.{item, line, line_a, line_x, ring_lines, report_lines, room, placed, written}
use Rattle.decimal.specs.Decimal.{put_limit}
use Rattle.decimal.proofs.Digits.{put-length}

-- what stands past the sets of an answer
abbrev pub no_set : Progression
no_set = record { first = 0; step = 0; many = 0 }

item-length : (n : ℕ) → n < put_limit → length (item n) ≤ most_item
item-length n h = omega (arith, put-length n h)

-- a set aside whose numbers can be put
pub record NarrowSet (a : Progression) : Type 0 where
  pub first : a.first < put_limit
  pub step : a.step < put_limit
  pub many : a.many < put_limit

pub aside-length : (t : ℕ) (a : Progression) → t < put_limit → NarrowSet a → length (line_a t a) ≤ most_line
unfolding line flat_map
aside-length t a h n =
    simp length-append
    (omega (arith, item-length t h, item-length a.first n.first, item-length a.step n.step, item-length a.many n.many))

pub ring-length :
    (t : ℕ) (ring : Option ℕ)
    → t < put_limit
    → ((start : ℕ) → ring ≡ Some start → start < put_limit)
    → length (ring_lines t ring) ≤ most_line
unfolding line flat_map
ring-length t None h k = omega arith
ring-length t (Some start) h k = simp length-append (omega (arith, item-length t h, item-length start (k start refl)))

pub refusal-length : (n : ℕ) → n < put_limit → length (line_x n) ≤ most_line
unfolding line flat_map
refusal-length n h = simp length-append (omega (arith, item-length n h))

flat_map-length :
    {A : Type 0} (f : A → List ℕ) (k : ℕ) (d : A) (es : List A)
    → ((i : ℕ) → i < length es → length (f (get_or es i d)) ≤ k)
    → length (flat_map f es) ≤ k * length es
unfolding flat_map
flat_map-length f k d [] h = omega arith
flat_map-length f k d (e ∷ es) h =
    simp length-append (omega (arith, h 0 (omega arith), flat_map-length f k d es (λ i l. h (suc i) (omega arith))))

-- an answer as the matcher's type has it: at most one set for each place of a stage, and every number can be put
pub record Narrow (answer : Answer) : Type 0 where
  pub ring : (start : ℕ) → answer.ring ≡ Some start → start < put_limit
  pub few : length answer.sets ≤ stage_count
  pub sets : (i : ℕ) → NarrowSet (get_or answer.sets i no_set)

pub report-fits : (t : ℕ) (answer : Answer) → t < put_limit → Narrow answer → length (report_lines t answer) ≤ room
unfolding report_lines
report-fits t answer h n =
    let sets = take answer.asides answer.sets in
    let count = length-take answer.asides answer.sets in
    let each : (i : ℕ) → i < length sets → length (line_a t (get_or sets i no_set)) ≤ most_line =
    λ i l. rw (get_or-take answer.asides answer.sets i no_set (omega arith)) (aside-length t _ h (n.sets i)) in
    simp length-append (omega (arith, ring-length t answer.ring h n.ring, flat_map-length (line_a t) most_line no_set sets each))

-- the place behind the lines that a call put into a buffer of the same length lies within the buffer
pub next-within :
    (entry exit : List ℕ) (at : ℕ) (lines : List ℕ) (next : ℕ)
    → Some next ≡ placed entry at lines
    → exit ≡ written entry at lines
    → length exit ≡ length entry
    → next ≤ length entry
unfolding placed written
next-within entry exit at lines next p w k =
    elim (dec_le (at + room) (length entry)) [
      | yes r ↦
          let p' = rw (le-leb (at + room) (length entry) r) at p in
          let w' = rw (le-leb (at + room) (length entry) r) at w in
          let e : next ≡ at + length lines = cc in
          omega (arith, simp (length-append, length-take, length-drop) at (ap length w'))
      | no r ↦
          let p' = rw (lt-leb (at + room) (length entry) (lt_of_not-le r)) at p in
          let z : ◌≡◌ {A = ℕ} 0 1 = cc in
          omega arith
    ]
