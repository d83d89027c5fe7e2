-- An array that is filled by calls of a closure, which has the same answer at an index whenever it is called.
-- Assumes nothing.
use Rattle.std.proofs.Common.{ℕ, zero, suc, ◌+◌, ◌≤◌, ◌<◌, ◌≡◌, ◌∙◌, List, get_or, subst, arith}
use Rattle.std.specs.Array.{IsFromFnResultFrom, IsFromFnResult}
use Rattle.std.specs.Fn.{Mut, Called}
use native.Mathlib.Decide.{dec_le}
use Rattle.lists.specs.Lists.{tabulate}
use Rattle.lists.proofs.Laws.{tabulated}

module _ {F B : Type 0} (g : Mut F (ℕ × Unit {0}) B) (f : F) (h : ℕ → B)
    (answers : (i : ℕ) (y : B) (q : F) → Called g f (i, tt) y q → (y ≡ h i) × (q ≡ f)) where
  filled-at :
      (ys : List B) (i n : ℕ) → IsFromFnResultFrom g f ys i n → (d : B) (k : ℕ) → i ≤ k → k < i + n → get_or ys k d ≡ h k
  filled-at ys i zero r d k low high = absurd (omega arith)
  filled-at ys i (suc n) r d k low high =
      let a = answers i r.1 r.0 r.3 in
      elim (dec_le k i) [
        | yes l ↦ let same : k ≡ i = omega arith in rw same (r.2.1 d ∙ a.0)
        | no l ↦ filled-at ys (i + 1) n (subst (λ q. IsFromFnResultFrom g q ys (i + 1) n) a.1 r.4) d k (omega arith) (omega arith)
      ]

  pub filled : (d : B) (ys : List B) (n : ℕ) → IsFromFnResult g f ys n → ys ≡ tabulate h n
  filled d ys n r = tabulated h n d ys r.long (λ i l. filled-at ys 0 n r.each d i (omega arith) (omega arith))
