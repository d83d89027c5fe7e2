-- How often a start stands in a list, and in the lists of starts that sets are.
use Prim.Native.Nat.{ℕ, ◌+◌, ◌≤◌, ◌<◌}
use mathlib.Core.Path.{◌≡◌, refl}
use mathlib.Core.Logic.{inl, inr}
use mathlib.Core.List.{List, [], ◌∷◌, ◌++◌, append_assoc}
use native.Mathlib.Decide.{ℕ_discrete}
use native.Mathlib.Omega.{arith}
use borrow.Author.Tests.{eq-eqb, ne_eqb}
use Rattle.ladder.specs.Ladder.{Progression}
use Rattle.ladder.specs.Claim.{starts_of, times}
use Rattle.ladder.proofs.Starts.{Has, Ascending}

-- How often a start stands in a list, and whether it does.
pub has-times : (xs : List ℕ) (s : ℕ) → Has xs s → 0 < times s xs
unfolding times
has-times [] s q = absurd q
has-times (x ∷ xs) s (inl e) = rw (eq-eqb x s e) (omega arith)
has-times (x ∷ xs) s (inr q) =
    elim (ℕ_discrete x s) [
      | yes e ↦ rw (eq-eqb x s e) (omega arith)
      | no n ↦ rw (ne_eqb x s n) (has-times xs s q)
    ]

pub times-has : (xs : List ℕ) (s : ℕ) → 0 < times s xs → Has xs s
unfolding times
times-has [] s l = absurd (omega arith)
times-has (x ∷ xs) s l = elim (ℕ_discrete x s) [ yes e ↦ inl e | no n ↦ inr (times-has xs s (rw (ne_eqb x s n) at l)) ]

pub times-append : (xs ys : List ℕ) (s : ℕ) → times s (xs ++ ys) ≡ times s xs + times s ys
unfolding times
times-append [] ys s = omega arith
times-append (x ∷ xs) ys s =
    elim (ℕ_discrete x s) [
      | yes e ↦ rw (eq-eqb x s e) (omega (arith, times-append xs ys s))
      | no n ↦ rw (ne_eqb x s n) (times-append xs ys s)
    ]

pub absent-times : (xs : List ℕ) (s : ℕ) → (Has xs s → ⊥) → times s xs ≡ 0
absent-times xs s n =
    elim (ℕ_discrete (times s xs) 0) [ yes e ↦ e | no k ↦ absurd (n (times-has xs s (omega arith))) ]

-- A start stands in a rising list at most once.
pub times-ascending : (xs : List ℕ) (s : ℕ) → Ascending xs → times s xs ≤ 1
unfolding times
times-ascending [] s a = omega arith
times-ascending (x ∷ xs) s a =
    elim (ℕ_discrete x s) [
      | yes e ↦ rw (eq-eqb x s e) (omega (arith, absent-times xs s (λ q. omega (arith, a.0 s q))))
      | no n ↦ rw (ne_eqb x s n) (times-ascending xs s a.1)
    ]

pub starts-append : (us vs : List Progression) → starts_of (us ++ vs) ≡ starts_of us ++ starts_of vs
unfolding starts_of
starts-append [] vs = refl
starts-append (u ∷ us) vs = rw (starts-append us vs) (simp append_assoc)
