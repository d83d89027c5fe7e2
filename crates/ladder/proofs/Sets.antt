-- The sets that one byte sets aside in all stages: which starts they hold, that they hold none twice, and that no other start is lost.
use Prim.Native.Nat.{ℕ, zero, suc, ◌+◌, ◌≤◌, ◌<◌}
use mathlib.Core.Path.{◌≡◌, subst}
use mathlib.Core.Logic.{◌⊎◌, inl, inr}
use mathlib.Core.List.{List, []}
use native.Mathlib.Decide.{ℕ_discrete}
use native.Mathlib.Omega.{arith}
use Rattle.ladder.specs.Claim.{starts_of, times}
use Rattle.ladder.proofs.Levels.{one-level}
use Rattle.ladder.proofs.Starts.{Has, has_left, has_right, has-append}
use Rattle.ladder.proofs.Times.{times-has, times-append, times-ascending, absent-times, starts-append}
use Rattle.ladder.proofs.Aside.{enter-keeps, enter-drops, enter-once}
use Rattle.ladder.proofs.Even.{Even, rest-even}
use Rattle.ladder.proofs.Byte.{Byte, size, due, rest, entered, asides}
use Rattle.ladder.proofs.Aged.{Aged}
use Rattle.ladder.proofs.Visited.{Met, rest_has, rest-ascending, rest_below, entered-cases, next-staged}

-- The starts set aside in stage i, and in all stages below n.
abbrev pub set_at : Byte → ℕ → List ℕ
set_at c i = starts_of (entered c i).aside

abbrev pub sets_below : Byte → ℕ → List ℕ
sets_below c n = starts_of (asides c n)

module _ {c : Byte} {t : ℕ} (w : Met c t) (even : (i : ℕ) → Even (c.stages i)) where
  -- A start left in a stage is listed after the byte, or set aside and then not listed.
  pub entered-keeps : (i s : ℕ) → Has (rest c i) s → Has (entered c i).listed s ⊎ Has (set_at c i) s
  entered-keeps i s q =
      entered-cases w (λ e. Has e.listed s ⊎ Has (starts_of e.aside) s) i (inl q)
      (λ k.
      enter-keeps c.tests c.history (rest c i) (due c i) (rest-ascending w i)
      (rest-even w i (even i)) s q)

  pub entered-drops : (i s : ℕ) → Has (set_at c i) s → Has (rest c i) s × (Has (entered c i).listed s → ⊥)
  unfolding starts_of
  entered-drops i s =
      entered-cases w (λ e. Has (starts_of e.aside) s → Has (rest c i) s × (Has e.listed s → ⊥)) i (λ q. absurd q)
      (λ k.
      enter-drops c.tests c.history (rest c i) (due c i) (rest-ascending w i)
      (rest-even w i (even i)) (rest_below w i k) s)

  entered-once : (i s : ℕ) → times s (set_at c i) ≤ 1
  unfolding starts_of
  entered-once i s =
      entered-cases w (λ e. times s (starts_of e.aside) ≤ 1) i (times-ascending [] s tt)
      (λ k.
      enter-once c.tests c.history (rest c i) (due c i) (rest-ascending w i)
      (rest-even w i (even i)) s)

  -- What some stage sets aside is set aside, and nothing else.
  pub asides-has : (n i s : ℕ) → i < n → Has (set_at c i) s → Has (sets_below c n) s
  unfolding asides
  asides-has zero i s l q = absurd (omega arith)
  asides-has (suc n) i s l q =
      rw (starts-append (entered c n).aside (asides c n))
      (elim (ℕ_discrete i n) [
        | yes e ↦ has_left (set_at c n) (sets_below c n) s (subst (λ j. Has (set_at c j) s) e q)
        | no k ↦ has_right (set_at c n) (sets_below c n) s (asides-has n i s (omega arith) q)
      ])

  pub asides-from : (n s : ℕ) → Has (sets_below c n) s → (i : ℕ) × (i < n) × Has (set_at c i) s
  unfolding asides starts_of
  asides-from zero s q = absurd q
  asides-from (suc n) s q =
      elim (has-append (set_at c n) (sets_below c n) s (rw (starts-append (entered c n).aside (asides c n)) at q)) [
        | inl r ↦ (n, omega arith, r)
        | inr r ↦ let o : (i : ℕ) × (i < n) × Has (set_at c i) s = asides-from n s r in (o.0, omega arith, o.2)
      ]

  -- A start that stage i sets aside is listed in no stage then, and no other stage sets it aside.
  pub aside-nowhere : (i j s : ℕ) → Has (set_at c i) s → Has (entered c j).listed s → ⊥
  aside-nowhere i j s q r =
      let d : Has (rest c i) s × (Has (entered c i).listed s → ⊥) = entered-drops i s q in
      let x : Has (c.stages i) s × (suc t < s + size c (suc i)) = rest_has w i s d.0 in
      let a : Aged c.tests.length (suc t) j (entered c j).listed = (next-staged w).aged j in
      let same : j ≡ i =
      one-level c.tests.length j i s (suc t) (a.old s r) (a.young s r)
      (omega (arith, (w.ok.aged i).old s x.0)) x.1
      in
      d.1 (subst (λ n. Has (entered c n).listed s) same r)

  one-stage : (i j s : ℕ) → Has (set_at c i) s → Has (set_at c j) s → i ≡ j
  one-stage i j s q r =
      let a : Has (c.stages i) s × (suc t < s + size c (suc i)) = rest_has w i s (entered-drops i s q).0 in
      let b : Has (c.stages j) s × (suc t < s + size c (suc j)) = rest_has w j s (entered-drops j s r).0 in
      one-level c.tests.length i j s (suc t) (omega (arith, (w.ok.aged i).old s a.0)) a.1
      (omega (arith, (w.ok.aged j).old s b.0)) b.1

  -- No start is set aside twice at one byte.
  pub asides-once : (n s : ℕ) → times s (sets_below c n) ≤ 1
  unfolding asides starts_of
  asides-once zero s = times-ascending [] s tt
  asides-once (suc n) s =
      rw (starts-append (entered c n).aside (asides c n), times-append (set_at c n) (sets_below c n) s)
      (elim (ℕ_discrete (times s (sets_below c n)) 0) [
        | yes e ↦ omega (arith, entered-once n s)
        | no k ↦
            let o : (i : ℕ) × (i < n) × Has (set_at c i) s = asides-from n s (times-has (sets_below c n) s (omega arith)) in
            let none : times s (set_at c n) ≡ 0 =
            absent-times (set_at c n) s (λ q. omega (arith, one-stage o.0 n s o.2 q))
            in
            omega (arith, asides-once n s)
      ])
