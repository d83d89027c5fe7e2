-- The number of stages and the lengths of the tested beginnings: k is the least with 2^k ≥ m, and |P_i| is 2^i below k and m at k.
use Prim.Native.Nat.{ℕ, zero, suc, ◌+◌, ◌*◌, ◌^◌, ◌≤◌, ◌<◌}
use mathlib.Core.Path.{◌≡◌}
use native.Mathlib.Nat.{zero-add, le_of_suc-le-suc, add-zero, suc-add, add-suc, lt_of_not-le, min-eq_left, min-eq_right}
use native.Mathlib.Decide.{dec_le}
use native.Mathlib.Omega.{arith}
use lib.Pow.{pow_pos, pow_mono}
use borrow.Author.Tests.{le-leb, lt-leb}
use Rattle.ladder.specs.Prefix.{least_from, levels, prefix_length}

-- what a count k must be to be the number of stages of m bytes
pub record Least (m k : ℕ) : Type 0 where
  pub reaches : m ≤ 2 ^ k
  pub below : (j : ℕ) → j < k → 2 ^ j < m

least-from : (fuel i m : ℕ) → m ≤ 2 ^ (i + fuel) → ((j : ℕ) → j < i → 2 ^ j < m) → Least m (least_from fuel i m)
unfolding least_from
least-from zero i m far low = record { reaches = rw add-zero at far; below = low }
least-from (suc fuel) i m far low =
    elim (dec_le m (2 ^ i)) [
      | yes k ↦ rw (le-leb m (2 ^ i) k, least_from) (record { reaches = k; below = low })
      | no k ↦
          rw (lt-leb m (2 ^ i) (lt_of_not-le k), least_from)
          (least-from fuel (suc i) m (rw (suc-add, ← add-suc) far) (λ j l. omega (arith, pow_mono (le_of_suc-le-suc l))))
    ]

pub self-reaches : (m : ℕ) → m < 2 ^ m
self-reaches zero = omega arith
self-reaches (suc m) = omega (arith, self-reaches m)

-- the number of stages is the least k with 2^k ≥ m
pub levels-least : (m : ℕ) → Least m (levels m)
unfolding levels
levels-least m = least-from m 0 m (rw zero-add (omega (arith, self-reaches m))) (λ j l. omega arith)

pub levels-reach : (m : ℕ) → m ≤ 2 ^ levels m
levels-reach m = (levels-least m).reaches

pub below-levels : (m j : ℕ) → j < levels m → 2 ^ j < m
below-levels m = (levels-least m).below

-- and only that one
pub least-levels : {m k : ℕ} → Least m k → levels m ≡ k
least-levels {m} {k} q =
    elim (dec_le (levels m) k) [
      | yes a ↦
          elim (dec_le k (levels m)) [
            | yes b ↦ omega arith
            | no b ↦ absurd (omega (arith, q.below (levels m) (lt_of_not-le b), levels-reach m))
          ]
      | no a ↦ absurd (omega (arith, below-levels m k (lt_of_not-le a), q.reaches))
    ]

-- The lengths: |P_k| = m, |P_i| = 2^i below, rising strictly and at most doubling.
pub last-length : (m : ℕ) → prefix_length m (levels m) ≡ m
last-length m = min-eq_right (levels-reach m)

pub early-length : (m i : ℕ) → i < levels m → prefix_length m i ≡ 2 ^ i
early-length m i l = min-eq_left (omega (arith, below-levels m i l))

pub length-rises : (m i : ℕ) → i < levels m → prefix_length m i < prefix_length m (suc i)
length-rises m i l = omega (arith, below-levels m i l, pow_pos i)

pub length-mono : (m i j : ℕ) → i ≤ j → prefix_length m i ≤ prefix_length m j
length-mono m i j l = omega (arith, pow_mono l)

pub length-doubles : (m i : ℕ) → prefix_length m (suc i) ≤ 2 * prefix_length m i
length-doubles m i = omega arith

-- The age T - s of a start lies between two lengths only.
pub one-level :
    (m i j s T : ℕ)
    → s + prefix_length m i ≤ T
    → T < s + prefix_length m (suc i)
    → s + prefix_length m j ≤ T
    → T < s + prefix_length m (suc j)
    → i ≡ j
one-level m i j s T a b a' b' =
    elim (dec_le (suc i) j) [
      | yes l ↦ absurd (omega (arith, length-mono m (suc i) j l))
      | no k ↦
          elim (dec_le (suc j) i) [
            | yes l ↦ absurd (omega (arith, length-mono m (suc j) i l))
            | no l ↦ omega arith
          ]
    ]

pub length-within : (m i : ℕ) → prefix_length m i ≤ m
length-within m i = omega arith

pub length-positive : (m i : ℕ) → 1 ≤ m → 1 ≤ prefix_length m i
length-positive m i h = omega (arith, pow_pos i)

pub first-length : (m : ℕ) → 1 ≤ m → prefix_length m 0 ≡ 1
first-length m h = omega arith

-- no pattern of a card has more than 20 stages
pub levels-bound : (m : ℕ) → m ≤ 1048576 → levels m ≤ 20
levels-bound m h =
    elim (dec_le (levels m) 20) [
      | yes a ↦ a
      | no a ↦ absurd (omega (arith, below-levels m 20 (lt_of_not-le a)))
    ]
