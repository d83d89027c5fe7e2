-- The numbers that a test chooses: they pass it and rise, the same test chooses the same ones, and one number more that passes is one more.
-- Assumes nothing.
use Prim.Native.Nat.{ℕ, zero, suc, ◌+◌, ◌-◌, ◌≤◌, ◌<◌}
use mathlib.Core.Path.{◌≡◌, refl, ◌∙◌, ap}
use mathlib.Core.Bool.{Bool, true, false}
use mathlib.Core.List.{List, [], ◌∷◌}
use native.Mathlib.Nat.{not-suc-le-zero}
use native.Mathlib.Decide.{ℕ_discrete}
use native.Mathlib.Omega.{arith}
use lib.ListN.{length, get_or}
use Rattle.lists.specs.Lists.{chosen, Rising}
use Rattle.lists.proofs.Cases.{by-test}

-- Two tests that agree choose the same.
pub chosen-same :
    (test other : ℕ → Bool) (from n : ℕ)
    → ((i : ℕ) → from ≤ i → i < from + n → test i ≡ other i)
    → chosen test from n ≡ chosen other from n
unfolding chosen
chosen-same test other from zero h = refl
chosen-same test other from (suc n) h =
    rw (h from (omega arith) (omega arith), chosen-same test other (suc from) n (λ i l b. h i (omega arith) (omega arith)))

-- What holds of a number and of each of a list holds of each of the list with the number before it.
each-behind :
    (P : ℕ → Type 0) (x : ℕ) (l : List ℕ)
    → P x
    → ((i : ℕ) → i < length l → P (get_or l i 0))
    → (i : ℕ)
    → i < length (x ∷ l)
    → P (get_or (x ∷ l) i 0)
each-behind P x l first more zero b = first
each-behind P x l first more (suc i) b = more i (omega arith)

-- A number below all of a rising list may stand before it.
rising-behind : (x : ℕ) (l : List ℕ) → ((i : ℕ) → i < length l → x < get_or l i 0) → Rising l → Rising (x ∷ l)
rising-behind x l first more i zero b h = absurd (omega arith)
rising-behind x l first more zero (suc j) b h = first j (omega arith)
rising-behind x l first more (suc i) (suc j) b h = more i j (omega arith) (omega arith)

-- A number that a test chooses among the n from `from` on.
pub record Choice (test : ℕ → Bool) (from n x : ℕ) : Type 0 where
  pub passes : test x ≡ true
  pub least : from ≤ x
  pub below : x < from + n

module _ (test : ℕ → Bool) where
  -- a first number that passes, and one that does not
  take-first : (from n : ℕ) → test from ≡ true → chosen test from (suc n) ≡ from ∷ chosen test (suc from) n
  unfolding chosen
  take-first from n e = rw e

  pass-over : (from n : ℕ) → test from ≡ false → chosen test from (suc n) ≡ chosen test (suc from) n
  unfolding chosen
  pass-over from n e = rw e

  no_more : (from : ℕ) → chosen test from zero ≡ []
  unfolding chosen
  no_more from = refl

  pub chosen_none : (from n : ℕ) → ((i : ℕ) → from ≤ i → i < from + n → test i ≡ false) → chosen test from n ≡ []
  chosen_none from zero h = no_more from
  chosen_none from (suc n) h =
      pass-over from n (h from (omega arith) (omega arith)) ∙ chosen_none (suc from) n (λ i l b. h i (omega arith) (omega arith))

  -- The first number that passes is chosen, and the others are chosen behind it.
  pub chosen-next :
      (from n x : ℕ)
      → from ≤ x
      → x < from + n
      → test x ≡ true
      → ((i : ℕ) → from ≤ i → i < x → test i ≡ false)
      → chosen test from n ≡ x ∷ chosen test (suc x) (from + n - suc x)
  chosen-next from zero x l b e h = absurd (omega arith)
  chosen-next from (suc n) x l b e h =
      elim (ℕ_discrete from x) [
        | yes q ↦
            rw q (take-first x n e ∙ ap (λ (k : ℕ). x ∷ chosen test (suc x) k) (omega arith))
        | no q ↦
            pass-over from n (h from (omega arith) (omega arith))
            ∙ chosen-next (suc from) n x (omega arith) (omega arith) e (λ i m. h i (omega arith))
            ∙ ap (λ (k : ℕ). x ∷ chosen test (suc x) (k - suc x)) (omega arith)
      ]

  pub chosen-passes : (from n i : ℕ) → i < length (chosen test from n) → Choice test from n (get_or (chosen test from n) i 0)
  chosen-passes from zero i l = absurd (not-suc-le-zero (rw (no_more from) at l))
  chosen-passes from (suc n) i l =
      let later : (i : ℕ) → i < length (chosen test (suc from) n) → Choice test from (suc n) (get_or (chosen test (suc from) n) i 0) =
      λ i b.
      let q = chosen-passes (suc from) n i b in
      record { passes = q.passes; least = omega (arith, q.least); below = omega (arith, q.below) }
      in
      by-test (test from)
      (λ e.
      rw (take-first from n e)
      (each-behind (Choice test from (suc n)) from (chosen test (suc from) n)
      (record { passes = e; least = omega arith; below = omega arith }) later i (rw (take-first from n e) at l)))
      (λ e. rw (pass-over from n e) (later i (rw (pass-over from n e) at l)))

  pub chosen-rising : (from n : ℕ) → Rising (chosen test from n)
  chosen-rising from zero = rw (no_more from) (λ i j b l. absurd (not-suc-le-zero l))
  chosen-rising from (suc n) =
      by-test (test from)
      (λ e.
      rw (take-first from n e)
      (rising-behind from (chosen test (suc from) n) (λ i b. (chosen-passes (suc from) n i b).least) (chosen-rising (suc from) n)))
      (λ e. rw (pass-over from n e) (chosen-rising (suc from) n))

-- One number more that passes is one more that is chosen.
pub chosen-one-more :
    (test other : ℕ → Bool) (from n x : ℕ)
    → from ≤ x
    → x < from + n
    → test x ≡ false
    → other x ≡ true
    → ((i : ℕ) → (i ≡ x → ⊥) → other i ≡ test i)
    → length (chosen other from n) ≡ suc (length (chosen test from n))
chosen-one-more test other from zero x l b f t h = absurd (omega arith)
chosen-one-more test other from (suc n) x l b f t h =
    elim (ℕ_discrete from x) [
      | yes q ↦
          rw (q, take-first other x n t, pass-over test x n f)
          (ap (λ (k : List ℕ). suc (length k)) (chosen-same other test (suc x) n (λ i m _. h i (omega arith))))
      | no q ↦
          let more = chosen-one-more test other (suc from) n x (omega arith) (omega arith) f t h in
          by-test (test from)
          (λ e. rw (take-first test from n e, take-first other from n (h from q ∙ e)) (ap suc more))
          (λ e. rw (pass-over test from n e, pass-over other from n (h from q ∙ e)) more)
    ]
