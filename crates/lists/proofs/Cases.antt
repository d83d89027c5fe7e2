-- Tests: one passes or fails, and what a conjunction of several says of each.
-- Assumes nothing.
use mathlib.Core.Path.{◌≡◌, refl}
use mathlib.Core.Bool.{Bool, true, false, cond, ◌&&◌}
use mathlib.Core.List.{List, [], ◌∷◌}
use Rattle.lists.proofs.Laws.{and_left, and_right}

pub by-test : {G : Type 0} (b : Bool) → (b ≡ true → G) → (b ≡ false → G) → G
by-test true f g = f refl
by-test false f g = g refl

-- what holds of both answers to a test, where each is given, holds of the answer
pub either : {A : Type 0} (P : A → Type 0) (test : Bool) {x y : A} → (test ≡ true → P x) → (test ≡ false → P y) → P (cond test x y)
either P true f g = f refl
either P false f g = g refl

-- the test a and each of the others, as `◌&&◌` groups them
abbrev pub all_of : Bool → List Bool → Bool
all_of a [] = a
all_of a (b ∷ tests) = all_of (a && b) tests

abbrev pub Each : List Bool → Type 0
Each [] = Unit {0}
Each (b ∷ tests) = (b ≡ true) × Each tests

pub each : (a : Bool) (tests : List Bool) → all_of a tests ≡ true → Each (a ∷ tests)
each a [] e = (e, tt)
each a (b ∷ tests) e =
    let q : Each ((a && b) ∷ tests) = each (a && b) tests e in
    (and_left a b q.0, (and_right a b q.0, q.1))
