-- No true match is lost: a start at which P_i stands is listed in stage i at the right age, unless it was set aside; so it is tried.
use Prim.Native.Nat.{ℕ, zero, suc, ◌+◌, ◌≤◌, ◌<◌}
use mathlib.Core.Path.{◌≡◌, refl, subst}
use mathlib.Core.Logic.{◌⊎◌, inl, inr}
use mathlib.Core.Bool.{Bool, true}
use mathlib.Core.List.{List}
use native.Mathlib.Decide.{dec_le}
use native.Mathlib.Omega.{arith}
use lib.ListN.{length, take}
use borrow.Author.Tests.{ne_eqb}
use Rattle.ladder.specs.Prefix.{block, levels, prefix_length, prefix}
use Rattle.ladder.specs.Ladder.{tests_of, after}
use Rattle.ladder.proofs.Levels.{length-positive, length-rises}
use Rattle.ladder.proofs.Starts.{Has}
use Rattle.ladder.proofs.Blocks.{block-take, prefix-front}
use Rattle.ladder.proofs.Enter.{enter-new}
use Rattle.ladder.proofs.Byte.{Byte, byte_at, top, size, due, tested, matched, rest, entered}
use Rattle.ladder.proofs.Visited.{Met, due-tested, has_rest}
use Rattle.ladder.proofs.Stages.{met, after-stage, answer-aside}
use Rattle.ladder.proofs.Even.{after-even}
use Rattle.ladder.proofs.Sets.{set_at, entered-keeps, asides-has}
use Rattle.ladder.proofs.Fate.{Dropped}

module _ (agree : List ℕ → List ℕ → Bool) (p h : List ℕ) where
  -- Every start at which P_i stands, at the age for stage i, is listed there or was set aside.
  abbrev pub Complete : ℕ → Type 0
  Complete t =
      (i s : ℕ)
      → i < levels (length p)
      → s + prefix_length (length p) i ≤ t
      → t < s + prefix_length (length p) (suc i)
      → block h s (prefix_length (length p) i) ≡ prefix p i
      → Has (after (tests_of agree p) h t i) s ⊎ Dropped (tests_of agree p) h t s

module _
    (agree : List ℕ → List ℕ → Bool) (same : (u : List ℕ) → agree u u ≡ true) (p h : List ℕ) (long : 1 ≤ length p)
  where
    module _ (t : ℕ) (l : t < length h) where
      abbrev c : Byte
      c = byte_at (tests_of agree p) h t

      w : Met c t
      w = met (tests_of agree p) h long t l

      -- A start at which P_i stands comes to be tried, unless it was set aside.
      pub comes-up :
          Complete agree p h t
          → (i s : ℕ)
          → i ≤ levels (length p)
          → s + prefix_length (length p) i ≡ suc t
          → block h s (prefix_length (length p) i) ≡ prefix p i
          → (tested c i ≡ true) ⊎ Dropped (tests_of agree p) h t s
      unfolding tested
      comes-up full zero s k e stands = inl refl
      comes-up full (suc i) s k e stands =
          elim
          (full i s k (omega (arith, length-rises (length p) i k)) (omega arith)
          (prefix-front p h s i (suc i) (omega arith) stands)) [
            | inl q ↦ inl (due-tested w i s q e)
            | inr d ↦ inr d
          ]

      -- .. and then it matches.
      pub matches :
          (i s : ℕ)
          → s + prefix_length (length p) i ≡ suc t
          → block h s (prefix_length (length p) i) ≡ prefix p i
          → tested c i ≡ true
          → (due c i ≡ s) × (matched c i ≡ true)
      matches i s e stands tried =
          let d : due c i ≡ s = omega (arith, w.now) in
          (d, rw (tried, d, block-take (suc t) s (prefix_length (length p) i) h (omega arith), stands) (same (prefix p i)))

      later : (s : ℕ) → Dropped (tests_of agree p) h t s → Dropped (tests_of agree p) h (suc t) s
      later s d = (d.0, d.1, omega (arith, d.2), d.3)

      aside-now : (i s : ℕ) → i < top c → Has (set_at c i) s → Dropped (tests_of agree p) h (suc t) s
      aside-now i s k q = (
        suc t,
        omega arith,
        omega arith,
        rw (answer-aside (tests_of agree p) h long t l)
            (asides-has w (after-even (tests_of agree p) h long t (omega arith)) (top c) i s k q),
      )

      listed-new : (i s : ℕ) → i < top c → (due c i ≡ s) × (matched c i ≡ true) → Has (entered c i).listed s
      listed-new i s k m =
          subst (Has (entered c i).listed) m.0
          (rw (m.1, ne_eqb i (top c) (λ e. omega arith)) (enter-new (tests_of agree p) (take (suc t) h) (rest c i) (due c i)))

      complete-next : Complete agree p h t → Complete agree p h (suc t)
      complete-next full i s k old young stands = rw (after-stage (tests_of agree p) h long t l i) (by-age (dec_le (s + size c i) t))
        where
          by-age : Dec (s + size c i ≤ t) → Has (entered c i).listed s ⊎ Dropped (tests_of agree p) h (suc t) s
          by-age (yes a) =
              elim (full i s k a (omega arith) stands) [
                | inl q ↦
                    elim (entered-keeps w (after-even (tests_of agree p) h long t (omega arith)) i s (has_rest w i s q young)) [
                      | inl r ↦ inl r
                      | inr r ↦ inr (aside-now i s k r)
                    ]
                | inr d ↦ inr (later s d)
              ]
          by-age (no a) =
              elim (comes-up full i s (omega arith) (omega arith) stands) [
                | inl q ↦ inl (listed-new i s k (matches i s (omega arith) stands q))
                | inr d ↦ inr (later s d)
              ]

    pub complete : (t : ℕ) → t ≤ length h → Complete agree p h t
    complete zero l = λ i s k old young stands. absurd (omega (arith, length-positive (length p) i long))
    complete (suc t) l = complete-next t l (complete t (omega arith))
