-- Lists of starts: what stands in one, what is left when one is taken off, rising lists and their last start.
use Prim.Native.Nat.{ℕ, ◌≤◌, ◌<◌}
use mathlib.Core.Path.{◌≡◌, refl, subst}
use mathlib.Core.Logic.{◌⊎◌, inl, inr}
use mathlib.Core.Bool.{Bool, true, false, ◌||◌, false≢true}
use mathlib.Core.List.{List, [], ◌∷◌, ◌++◌}
use native.Mathlib.Decide.{ℕ_discrete}
use native.Mathlib.Omega.{arith}
use lib.Dec.{eqb}
use borrow.Author.Tests.{eq-eqb, ne_eqb}
use Rattle.ladder.specs.Ladder.{lists, without, last_of}

-- The start s stands in the list.
abbrev pub Has : List ℕ → ℕ → Type 0
Has [] s = ⊥
Has (x ∷ xs) s = (x ≡ s) ⊎ Has xs s

-- The list rises strictly.
abbrev pub Above : ℕ → List ℕ → Type 0
Above x xs = (y : ℕ) → Has xs y → x < y

abbrev pub Ascending : List ℕ → Type 0
Ascending [] = Unit {0}
Ascending (x ∷ xs) = Above x xs × Ascending xs

pub has-lists : (xs : List ℕ) (s : ℕ) → Has xs s → lists xs s ≡ true
unfolding lists
has-lists [] s q = absurd q
has-lists (x ∷ xs) s (inl e) = rw (eq-eqb x s e)
has-lists (x ∷ xs) s (inr q) = rw (has-lists xs s q) (go (eqb x s))
  where
    go : (b : Bool) → b || true ≡ true
    go true = refl
    go false = refl

pub absent-lists : (xs : List ℕ) (s : ℕ) → (Has xs s → ⊥) → lists xs s ≡ false
unfolding lists
absent-lists [] s n = refl
absent-lists (x ∷ xs) s n = rw (ne_eqb x s (λ e. n (inl e)), absent-lists xs s (λ q. n (inr q)))

pub lists-has : (xs : List ℕ) (s : ℕ) → lists xs s ≡ true → Has xs s
unfolding lists
lists-has [] s e = absurd (false≢true e)
lists-has (x ∷ xs) s e = elim (ℕ_discrete x s) [ yes d ↦ inl d | no d ↦ inr (lists-has xs s (rw (ne_eqb x s d) at e)) ]

pub without-absent : (xs : List ℕ) (s : ℕ) → (Has xs s → ⊥) → without xs s ≡ xs
unfolding without
without-absent [] s n = refl
without-absent (x ∷ xs) s n = rw (ne_eqb x s (λ e. n (inl e)), without-absent xs s (λ q. n (inr q)))

-- Taking off the first of a rising list leaves the tail.
pub without-first : (x : ℕ) (xs : List ℕ) → Above x xs → without (x ∷ xs) x ≡ xs
unfolding without
without-first x xs a = rw (eq-eqb x x refl) (without-absent xs x (λ q. omega (arith, a x q)))

pub has_left : (xs ys : List ℕ) (s : ℕ) → Has xs s → Has (xs ++ ys) s
has_left [] ys s q = absurd q
has_left (x ∷ xs) ys s (inl e) = inl e
has_left (x ∷ xs) ys s (inr q) = inr (has_left xs ys s q)

pub has_right : (xs ys : List ℕ) (s : ℕ) → Has ys s → Has (xs ++ ys) s
has_right [] ys s q = q
has_right (x ∷ xs) ys s q = inr (has_right xs ys s q)

pub has-append : (xs ys : List ℕ) (s : ℕ) → Has (xs ++ ys) s → Has xs s ⊎ Has ys s
has-append [] ys s q = inr q
has-append (x ∷ xs) ys s (inl e) = inl (inl e)
has-append (x ∷ xs) ys s (inr q) = elim (has-append xs ys s q) [ inl r ↦ inl (inr r) | inr r ↦ inr r ]

-- One more start at the end of a rising list.
pub ascending-snoc : (xs : List ℕ) (z : ℕ) → Ascending xs → ((y : ℕ) → Has xs y → y < z) → Ascending (xs ++ z ∷ [])
ascending-snoc [] z a b = (λ y q. absurd q, tt)
ascending-snoc (x ∷ xs) z a b = (above, ascending-snoc xs z a.1 (λ y q. b y (inr q)))
  where
    last : (y : ℕ) → Has (z ∷ []) y → x < y
    last y (inl e) = subst (λ n. x < n) e (b x (inl refl))
    last y (inr n) = absurd n

    above : Above x (xs ++ z ∷ [])
    above y q = elim (has-append xs (z ∷ []) y q) [ inl r ↦ a.0 y r | inr r ↦ last y r ]

-- The last start stands in the list, and none is above it.
pub has_last : (x : ℕ) (xs : List ℕ) → Has (x ∷ xs) (last_of x xs)
unfolding last_of
has_last x [] = inl refl
has_last x (y ∷ ys) = inr (has_last y ys)

pub last-greatest : (x : ℕ) (xs : List ℕ) → Ascending (x ∷ xs) → (y : ℕ) → Has (x ∷ xs) y → y ≤ last_of x xs
unfolding last_of
last-greatest x [] a y (inl e) = omega arith
last-greatest x [] a y (inr q) = absurd q
last-greatest x (z ∷ zs) a y (inl e) = omega (arith, a.0 (last_of z zs) (has_last z zs))
last-greatest x (z ∷ zs) a y (inr q) = last-greatest z zs a.1 y q

-- A list in which nothing stands.
pub nothing-in : (xs : List ℕ) → ((s : ℕ) → Has xs s → ⊥) → xs ≡ []
nothing-in [] n = refl
nothing-in (x ∷ xs) n = absurd (n x (inl refl))
