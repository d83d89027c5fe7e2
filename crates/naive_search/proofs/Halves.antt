-- The number of stages, by halving. Assumes nothing.
use Prim.Native.Nat.{ℕ, zero, suc, ◌-◌, ◌/◌, ◌^◌, ◌<◌, ◌≤◌}
use mathlib.Core.Path.{◌≡◌}
use native.Mathlib.Nat.{lt_of_not-le, le_of_suc-le-suc}
use native.Mathlib.Decide.{dec_le}
use native.Mathlib.Omega.{arith}
use Rattle.ladder.specs.Prefix.{levels}
use Rattle.ladder.proofs.Levels.{levels-reach, below-levels, least-levels}

-- what lies below the number of stages of the half lies one lower than those of the whole
half-below : (n : ℕ) → 1 < n → (j : ℕ) → j < suc (levels (n - n / 2)) → 2 ^ j < n
half-below n l zero h = omega arith
half-below n l (suc j) h = omega (arith, below-levels (n - n / 2) j (le_of_suc-le-suc h))

-- A pattern has one stage more than its larger half.
pub levels-half : (n : ℕ) → 1 < n → levels n ≡ suc (levels (n - n / 2))
levels-half n l =
    least-levels (record { reaches = omega (arith, levels-reach (n - n / 2)); below = half-below n l })

-- One byte, or none, has no stage.
pub levels-one : (n : ℕ) → n ≤ 1 → levels n ≡ 0
levels-one n l = least-levels (record { reaches = omega arith; below = λ j h. omega arith })

-- No number of 64 bits has more than 64 stages.
pub levels-64 : (n : ℕ) → n < 18446744073709551616 → levels n ≤ 64
levels-64 n l =
    elim (dec_le (levels n) 64) [
      | yes a ↦ a
      | no a ↦ absurd (omega (arith, below-levels n 64 (lt_of_not-le a)))
    ]
