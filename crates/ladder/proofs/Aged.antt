-- What a stage may list: starts that rise strictly, each with |P_i| ≤ t - s < |P_(i+1)|. So only the first start of a stage can be ripe.
use Prim.Native.Nat.{ℕ, suc, ◌+◌, ◌-◌, ◌≤◌, ◌<◌}
use mathlib.Core.Path.{◌≡◌, refl, ap}
use mathlib.Core.Logic.{inl, inr}
use mathlib.Core.Bool.{Bool, true, false, ◌&&◌, ◌||◌}
use mathlib.Core.List.{List, [], ◌∷◌}
use native.Mathlib.Omega.{arith}
use lib.ListN.{length}
use lib.Dec.{leb, eqb}
use borrow.Author.Tests.{leb-true}
use Rattle.ladder.specs.Prefix.{levels, prefix_length}
use Rattle.ladder.specs.Ladder.{Stages, lists, ripe}
use Rattle.ladder.proofs.Starts.{Has, Ascending, absent-lists}

-- The starts that stage i may list after t bytes, for a pattern of m bytes.
pub record Aged (m t i : ℕ) (xs : List ℕ) : Type 0 where
  pub ascends : Ascending xs
  pub old : (s : ℕ) → Has xs s → s + prefix_length m i ≤ t
  pub young : (s : ℕ) → Has xs s → t < s + prefix_length m (suc i)

pub record Staged (m t : ℕ) (stages : Stages) : Type 0 where
  pub aged : (i : ℕ) → Aged m t i (stages i)
  pub empty : (i : ℕ) → levels m ≤ i → stages i ≡ []

-- The first of a rising list is the only one that can be as low as s.
pub first-is : (xs : List ℕ) (s : ℕ) → Ascending xs → ((y : ℕ) → Has xs y → s ≤ y) → Has xs s → (ys : List ℕ) × (xs ≡ s ∷ ys)
first-is [] s a low q = absurd q
first-is (x ∷ xs) s a low (inl e) = (xs, ap (λ n. n ∷ xs) e)
first-is (x ∷ xs) s a low (inr q) = absurd (omega (arith, a.0 s q, low x (inl refl)))

-- Whether a stage is ripe is decided by its first start.
pub ripe-head :
    (m : ℕ) (h : List ℕ) (t i x : ℕ) (xs : List ℕ)
    → length h ≡ suc t
    → Aged m t i (x ∷ xs)
    → ripe h (prefix_length m (suc i)) (x ∷ xs)
    ≡ leb (prefix_length m (suc i)) (length h) && eqb x (length h - prefix_length m (suc i))
unfolding lists
ripe-head m h t i x xs now a =
    rw
    (absent-lists xs (length h - prefix_length m (suc i))
    (λ q. omega (arith, a.young x (inl refl), a.ascends.0 _ q)))
    (ap (λ b. leb (prefix_length m (suc i)) (length h) && b) (go (eqb x (length h - prefix_length m (suc i)))))
  where
    go : (b : Bool) → b || false ≡ b
    go true = refl
    go false = refl

-- Nothing that is too young is ripe.
pub unripe :
    (h : List ℕ) (n : ℕ) (xs : List ℕ)
    → ((s : ℕ) → Has xs s → length h < s + n)
    → ripe h n xs ≡ false
unripe h n xs late = go (leb n (length h)) refl
  where
    go : (b : Bool) → leb n (length h) ≡ b → b && lists xs (length h - n) ≡ false
    go true e = absent-lists xs _ (λ q. omega (arith, late _ q, leb-true n (length h) e))
    go false e = refl
