-- Runs of stores: one run behind another is the run of both, and a run may begin with its last element.
-- Assumes nothing.
use Prim.Native.Nat.{ℕ, suc, ◌+◌, ◌≤◌}
use mathlib.Core.Path.{◌≡◌, refl, sym, ◌∙◌, ap}
use mathlib.Core.List.{List, [], ◌∷◌, ◌++◌}
use native.Mathlib.Nat.{add-zero}
use native.Mathlib.Omega.{arith}
use lib.ListN.{length, set}
use lib.Seq.{sets, set_comm}

module _ {A : Type 0} where
  pub sets-append : (xs ys l : List A) (i : ℕ) → sets l i (xs ++ ys) ≡ sets (sets l i xs) (i + length xs) ys
  sets-append [] ys l i = rw add-zero
  sets-append (x ∷ xs) ys l i =
      sets-append xs ys (set l i x) (suc i) ∙ ap (λ (k : ℕ). sets (sets l i (x ∷ xs)) k ys) (omega arith)

  -- an element behind the run may be stored before it
  set_past : (xs l : List A) (i j : ℕ) (b : A) → i + length xs ≤ j → sets (set l j b) i xs ≡ set (sets l i xs) j b
  set_past [] l i j b h = refl
  set_past (x ∷ xs) l i j b h =
      ap (λ (m : List A). sets m (suc i) xs) (set_comm l j i b x (omega arith)) ∙ set_past xs (set l i x) (suc i) j b (omega arith)

  pub sets_last : (xs l : List A) (i : ℕ) (b : A) → sets l i (xs ++ b ∷ []) ≡ sets (set l (i + length xs) b) i xs
  sets_last xs l i b = sets-append xs (b ∷ []) l i ∙ sym (set_past xs l i (i + length xs) b (omega arith))
