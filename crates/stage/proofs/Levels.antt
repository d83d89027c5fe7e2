-- A stage is below k where |P_i| is below m.
-- Assumes nothing.
use Prim.Native.Nat.{ℕ, ◌≤◌, ◌<◌}
use native.Mathlib.Decide.{dec_lt}
use native.Mathlib.Omega.{arith}
use lib.Pow.{pow_mono}
use Rattle.ladder.specs.Prefix.{levels, prefix_length}
use Rattle.ladder.proofs.Levels.{below-levels, levels-reach, self-reaches}

module _ (m i : ℕ) where
  pub short_below : prefix_length m i < m → i < levels m
  short_below l =
      elim (dec_lt i (levels m)) [
        | yes h ↦ h
        | no h ↦ absurd (omega (arith, levels-reach m, pow_mono {i = levels m} {j = i} (omega arith)))
      ]

  pub whole_past : m ≤ prefix_length m i → levels m ≤ i
  whole_past l =
      elim (dec_lt i (levels m)) [ yes h ↦ absurd (omega (arith, below-levels m i h)) | no h ↦ omega arith ]

  -- and then i itself is below m
  pub short_small : prefix_length m i < m → i < m
  short_small l = omega (arith, self-reaches i)
