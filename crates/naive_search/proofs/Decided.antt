-- Answers that are true just where something holds. Assumes nothing.
use mathlib.Core.Path.{◌≡◌, refl}
use mathlib.Core.Bool.{true, false}
use Rattle.naive_search.specs.Search.{Decides}

pub never : {P : Type 0} → false ≡ true → P
never e = absurd cc

pub decides-no : {P : Type 0} → (P → ⊥) → Decides false P
decides-no f = record { only = λ e. never e; wherever = λ x. absurd (f x) }

pub decides-yes : {P : Type 0} → P → Decides true P
decides-yes x = record { only = λ e. x; wherever = λ y. refl }
