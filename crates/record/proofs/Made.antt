-- An array that is made by calling a closure at each place is the table of what the closure gives.
-- Assumes nothing.
use Prim.Native.Nat.{ℕ, zero, suc, ◌+◌, ◌≤◌, ◌<◌}
use mathlib.Core.Path.{◌≡◌, ◌∙◌}
use mathlib.Core.List.{List}
use native.Mathlib.Decide.{ℕ_discrete}
use native.Mathlib.Omega.{arith}
use lib.ListN.{get_or}
use denote.Param.Members.{Mut, Called}
use Rattle.std.specs.Array.{IsFromFnResult, IsFromFnResultFrom}
use Rattle.lists.specs.Lists.{tabulate}
use Rattle.lists.proofs.Laws.{tabulated}

-- The closure stays as it is, and gives h i at each place i.
module _
    {F B : Type 0} (g : Mut F (ℕ × Unit {0}) B) (f : F) (h : ℕ → B)
    (gives : (i : ℕ) (y : B) (q : F) → Called g f (i, tt) y q → (q ≡ f) × (y ≡ h i))
  where
    each-made :
        (ys : List B) (d : B) (i n : ℕ) → IsFromFnResultFrom g f ys i n → (k : ℕ) → i ≤ k → k < i + n → get_or ys k d ≡ h k
    each-made ys d i zero e k l b = absurd (omega arith)
    each-made ys d i (suc n) e k l b =
        let c = gives i e.1 e.0 e.3 in
        elim (ℕ_discrete i k) [
          | yes q ↦ rw (← q) (e.2.1 d ∙ c.1)
          | no q ↦ each-made ys d (i + 1) n (rw c.0 at e.4) k (omega arith) (omega arith)
        ]

    pub made : (ys : List B) (n : ℕ) (d : B) → IsFromFnResult g f ys n → ys ≡ tabulate h n
    made ys n d e = tabulated h n d ys e.long (λ i l. each-made ys d 0 n e.each i (omega arith) (omega arith))
