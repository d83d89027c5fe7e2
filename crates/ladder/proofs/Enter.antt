-- Entering a stage: either the newcomer is added behind the listed starts, or all of them but the last are set aside.
use Prim.Native.Nat.{ℕ, suc, ◌-◌, ◌<◌}
use mathlib.Core.Path.{◌≡◌, refl, subst}
use mathlib.Core.Logic.{◌⊎◌, inl, inr}
use mathlib.Core.Bool.{Bool, true, false}
use mathlib.Core.List.{List, [], ◌∷◌, ◌++◌}
use lib.ListN.{length}
use Rattle.ladder.specs.Ladder.{Tests, Entered, last_of, enter, continues}
use Rattle.ladder.proofs.Starts.{Has, Ascending, has_right, has-append, has_last, ascending-snoc}

module _ (tests : Tests) (h : List ℕ) where
  -- The newcomer z continues the starts xs, if they are two or more.
  abbrev pub Fits : List ℕ → ℕ → Type 0
  Fits [] z = Unit {0}
  Fits (x ∷ []) z = Unit {0}
  Fits (x ∷ y ∷ more) z = continues tests h x y (last_of y more) z ≡ true

  -- It does not, and they are two or more.
  pub record Breaks (xs : List ℕ) (z : ℕ) : Type 0 where
    pub x : ℕ
    pub y : ℕ
    pub more : List ℕ
    pub shape : xs ≡ x ∷ y ∷ more
    pub fails : continues tests h x y (last_of y more) z ≡ false

  -- What holds of both ends holds of what entering makes of a stage.
  pub enter-cases :
      (P : Entered → Type 0) (xs : List ℕ) (z : ℕ)
      → (Fits xs z → P (record { listed = xs ++ z ∷ []; aside = [] }))
      → ((b : Breaks xs z)
      → P
      (record {
        listed = last_of b.y b.more ∷ z ∷ [];
        aside = record { first = b.x; step = b.y - b.x; many = suc (length b.more) } ∷ [];
      }))
      → P (enter tests h xs z)
  unfolding enter
  enter-cases P [] z f g = f tt
  enter-cases P (x ∷ []) z f g = f tt
  enter-cases P (x ∷ y ∷ more) z f g = go (continues tests h x y (last_of y more) z) refl
    where
      go :
          (b : Bool)
          → continues tests h x y (last_of y more) z ≡ b
          → P (enter tests h (x ∷ y ∷ more) z)
      go true e = rw e (f e)
      go false e = rw e (g (record { x = x; y = y; more = more; shape = refl; fails = e }))

  pub breaks-last : (xs : List ℕ) (z : ℕ) (b : Breaks xs z) → Has xs (last_of b.y b.more)
  breaks-last xs z b = rw b.shape (inr (has_last b.y b.more))

  -- The newcomer is listed, and nothing else that was not.
  pub enter-new : (xs : List ℕ) (z : ℕ) → Has (enter tests h xs z).listed z
  enter-new xs z =
      enter-cases (λ e. Has e.listed z) xs z (λ f. has_right xs (z ∷ []) z (inl refl)) (λ b. inr (inl refl))

  pub enter-from : (xs : List ℕ) (z s : ℕ) → Has (enter tests h xs z).listed s → Has xs s ⊎ (z ≡ s)
  enter-from xs z s =
      enter-cases (λ e. Has e.listed s → Has xs s ⊎ (z ≡ s)) xs z
      (λ f q. elim (has-append xs (z ∷ []) s q) [ inl r ↦ inl r | inr r ↦ inr (only r) ])
      (λ b q. elim q [ inl e ↦ inl (subst (Has xs) e (breaks-last xs z b)) | inr r ↦ inr (only r) ])
    where
      only : Has (z ∷ []) s → z ≡ s
      only (inl e) = e
      only (inr n) = absurd n

  pub enter-ascending :
      (xs : List ℕ) (z : ℕ)
      → Ascending xs
      → ((s : ℕ) → Has xs s → s < z)
      → Ascending (enter tests h xs z).listed
  enter-ascending xs z up below =
      enter-cases (λ e. Ascending e.listed) xs z (λ f. ascending-snoc xs z up below)
      (λ b.
      ascending-snoc (last_of b.y b.more ∷ []) z (λ y q. absurd q, tt)
      (λ s q. elim q [ inl e ↦ subst (λ n. n < z) e (below _ (breaks-last xs z b)) | inr n ↦ absurd n ]))
