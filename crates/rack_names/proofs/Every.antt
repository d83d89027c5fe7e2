-- A test that all elements of a list pass is one that passes at each place.
-- Assumes nothing.
use Prim.Native.Nat.{ℕ, zero, suc, ◌≤◌, ◌<◌}
use mathlib.Core.Path.{◌≡◌, refl, sym, ◌∙◌, ap}
use mathlib.Core.Bool.{Bool}
use mathlib.Core.List.{List}
use native.Mathlib.Numerals.{add-one}
use native.Mathlib.Omega.{arith}
use lib.ListN.{length, take, get_or}
use lib.Seq.{take_all}
use Rattle.std.specs.List.{list_all}
use Rattle.std.proofs.lemmas.List.Folds.{list_all_more}
use Rattle.lists.specs.Lists.{every}

module _ {A : Type 0} (p : A → Bool) (xs : List A) (d : A) where
  pub every-front : (n : ℕ) → n ≤ length xs → list_all p (take n xs) ≡ every (λ i. p (get_or xs i d)) n
  unfolding every
  every-front zero l = refl
  every-front (suc n) l =
      let below : n < length xs = omega arith in
      rw (← every-front n (omega arith), ← add-one) (list_all_more p xs n d below)

  pub every-all : (n : ℕ) → length xs ≡ n → list_all p xs ≡ every (λ i. p (get_or xs i d)) n
  every-all n e =
      let most : length xs ≤ n = omega arith in
      ap (list_all p) (sym (take_all n xs most)) ∙ every-front n (omega arith)
