-- What the table of a key's powers gives: r to |P_i|, and r to any number that it reaches, by the number's binary digits.
-- Assumes nothing.
use Prim.Native.Nat.{ℕ, suc, ◌+◌, ◌-◌, ◌*◌, ◌/◌, ◌%◌, ◌^◌, ◌≤◌, ◌<◌}
use mathlib.Core.Path.{◌≡◌, sym, ◌∙◌, ap}
use mathlib.Core.Bool.{cond}
use mathlib.Core.List.{List, ◌++◌}
use native.Mathlib.Nat.{two-pow-succ, pow-zero, mul-le-mul, le_refl, lt_of_not-le}
use native.Mathlib.Numerals.{add-one}
use native.Mathlib.Decide.{dec_le, ℕ_discrete}
use native.Mathlib.Omega.{arith}
use lib.Dec.{leb}
use lib.Pow.{pow_mono}
use lib.ListN.{length, get_or, set, take, drop, replicate, get_or-append, length-replicate}
use lib.Seq.{get_or-set_same, get_or-set_other, get_or-append_right}
use Rattle.std.proofs.lemmas.List.{length-append, length-take-le, length-drop, get_or-drop, get_or-replicate}
use borrow.Author.Tests.{le-leb, lt-leb}
use Rattle.fingerprint.specs.declared.Key.{Key}
use Rattle.fingerprint.specs.declared.Power.{Power}
use Rattle.fingerprint.specs.Fingerprint.{power, multiplied, no_power}
use Rattle.fingerprint.proofs.Laws.{times_power}
use Rattle.ladder.specs.Prefix.{levels}
use Rattle.ladder.proofs.Levels.{early-length, last-length, levels-reach, below-levels}
use Rattle.lists.proofs.Laws.{length-tabulate, get_d_tabulate, tabulated}
use Rattle.signature.specs.Signature.{places}
use Rattle.powers.specs.Powers.{squares_of, Shifts}
use Rattle.powers.proofs.Doubling.{Doubling}

-- r to 2^i, as far as the table goes
abbrev square : Key → ℕ → ℕ → Power
square key most i = cond (leb i (levels most)) (power key (2 ^ i)) no_power

pub square-at : (key : Key) (most i : ℕ) → i < places → i ≤ levels most → get_or (squares_of key most) i no_power ≡ power key (2 ^ i)
square-at key most i l h = get_d_tabulate (square key most) places i no_power l ∙ rw (le-leb i (levels most) h)

-- a table whose beginning squaring has filled, and which has nothing past it, is that of the key
pub table_filled :
    (key : Key) (most n i : ℕ) (front : List Power) (next nothing : Power)
    → nothing ≡ no_power
    → n ≡ levels most + 1
    → n ≤ places
    → Doubling key (length (take n (replicate places nothing))) i front next
    → length (take n (replicate places nothing)) ≤ i
    → front ++ drop n (replicate places nothing) ≡ squares_of key most
table_filled key most n i front next nothing none e l q all =
    let table = front ++ drop n (replicate places nothing) in
    let blank : length (replicate places nothing) ≡ places = length-replicate places nothing in
    let size : length front ≡ n = omega (arith, q.size, length-take-le n (replicate places nothing), l, blank) in
    tabulated (square key most) places no_power table
    (omega (arith, length-append front (drop n (replicate places nothing)), length-drop n (replicate places nothing), size, blank, l))
    (λ j h.
    elim (dec_le j (levels most)) [
      | yes a ↦
          rw (le-leb j (levels most) a)
          (get_or-append front (drop n (replicate places nothing)) no_power j (omega (arith, size, e, a))
          ∙ q.filled j (omega (arith, all, q.size, size, e, a)))
      | no a ↦
          rw (lt-leb j (levels most) (omega arith))
          (get_or-append_right front (drop n (replicate places nothing)) j no_power (omega (arith, size, e, a))
          ∙ get_or-drop n (replicate places nothing) (j - length front) no_power
          ∙ get_or-replicate places (n + (j - length front)) nothing no_power (omega (arith, size, e, a, h))
          ∙ none)
    ])

-- more bytes have no fewer stages
pub levels-mono : (m most : ℕ) → m ≤ most → levels m ≤ levels most
levels-mono m most l =
    elim (dec_le (levels m) (levels most)) [
      | yes a ↦ a
      | no a ↦ absurd (omega (arith, below-levels m (levels most) (lt_of_not-le a), levels-reach most))
    ]

-- r to |P_i| for each tested beginning is in the table, but for that of the whole passage
pub shared-shifts :
    (key : Key) (most m k : ℕ) (table : List Power) (whole : Power)
    → table ≡ squares_of key most
    → k < places
    → k ≡ levels m
    → levels m ≤ levels most
    → whole ≡ power key m
    → Shifts key m (set table k whole)
shared-shifts key most m k table whole t room last reach e j h =
    let size : length table ≡ places = rw t (length-tabulate (square key most) places) in
    elim (ℕ_discrete j k) [
      | yes a ↦
          rw a (get_or-set_same table k whole no_power (omega (arith, size)) ∙ e ∙ ap (power key) (sym (rw last (last-length m))))
      | no a ↦
          get_or-set_other table k j whole no_power a
          ∙ rw t (square-at key most j (omega (arith, last)) (omega (arith, reach)))
          ∙ ap (power key) (sym (early-length m j (omega (arith, last))))
    ]

-- Where the digits below place i are done: what is left of m stands for the rest, and r to the part done is at hand.
pub record Digits (key : Key) (m : ℕ) (product : Power) (left i : ℕ) : Type 0 where
  pub done : ℕ
  pub sum : done + left * 2 ^ i ≡ m
  pub made : product ≡ power key done

-- what a digit stands for is no more than the number, so its place is one of those up to a power of 2 that is none less
digit-below : {key : Key} {m : ℕ} {product : Power} {left i : ℕ} → Digits key m product left i → 0 < left → (n : ℕ) → m ≤ 2 ^ n → i ≤ n
digit-below {left = left} {i} q some n l =
    elim (dec_le i n) [
      | yes h ↦ h
      | no h ↦
          let far : 2 ^ suc n ≤ 2 ^ i = pow_mono {i = suc n} {j = i} (omega arith) in
          let twice = two-pow-succ n in
          let once : 1 * 2 ^ i ≤ left * 2 ^ i = mul-le-mul some (le_refl (2 ^ i)) in
          let full : 1 ≤ 2 ^ n = rw pow-zero at (pow_mono {i = 0} {j = n} (omega arith)) in
          absurd (omega (arith, q.sum, l, far, twice, once, full))
    ]

module _ {key : Key} {m : ℕ} {product : Power} {left i : ℕ} (q : Digits key m product left i) where
  -- a digit 1, and a digit 0
  pub digit-one :
      (most : ℕ) (table : List Power)
      → table ≡ squares_of key most
      → m ≤ most
      → i < places
      → left % 2 ≡ 1
      → Digits key m (multiplied product (get_or table i no_power)) (left / 2) (i + 1)
  digit-one most table t r l odd =
      let reached = digit-below q (omega (arith, odd)) (levels most) (omega (arith, r, levels-reach most)) in
      record {
        done = q.done + 2 ^ i;
        sum =
            let halves : left * 2 ^ i ≡ (left / 2 + left / 2 + 1) * 2 ^ i = ap (λ (n : ℕ). n * 2 ^ i) (omega (arith, odd)) in
            rw (add-one, two-pow-succ i) (omega (arith, q.sum, halves));
        made = rw (q.made, t, square-at key most i l reached, times_power key q.done (2 ^ i));
      }

  pub digit-zero : (left % 2 ≡ 1 → ⊥) → Digits key m product (left / 2) (i + 1)
  digit-zero even =
      record {
        done = q.done;
        sum =
            let halves : left * 2 ^ i ≡ (left / 2 + left / 2) * 2 ^ i = ap (λ (n : ℕ). n * 2 ^ i) (omega (arith, even)) in
            rw (add-one, two-pow-succ i) (omega (arith, q.sum, halves));
        made = q.made;
      }
