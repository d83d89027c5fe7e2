-- What entering a stage sets aside: starts that were listed, each once, none of which is listed then; and no start is lost otherwise.
use Prim.Native.Nat.{ℕ, ◌-◌, ◌≤◌, ◌<◌}
use mathlib.Core.Path.{◌≡◌, sym, subst}
use mathlib.Core.Logic.{◌⊎◌, inl, inr}
use mathlib.Core.List.{List, [], ◌∷◌, append-nil}
use native.Mathlib.Omega.{arith}
use lib.ListN.{length}
use Rattle.ladder.specs.Ladder.{Tests, last_of, enter}
use Rattle.ladder.specs.Claim.{starts_from, starts_of, times}
use Rattle.ladder.proofs.Starts.{Has, Ascending, has_left, has_last}
use Rattle.ladder.proofs.Enter.{enter-cases, breaks-last}
use Rattle.ladder.proofs.Even.{Steps, Even}
use Rattle.ladder.proofs.Times.{times-ascending}

-- All starts but the last, of a progression x ∷ xs.
front-or-last :
    (d x : ℕ) (xs : List ℕ)
    → Steps d x xs
    → (s : ℕ)
    → Has (x ∷ xs) s
    → Has (starts_from x d (length xs)) s ⊎ (last_of x xs ≡ s)
unfolding starts_from last_of
front-or-last d x [] q s (inl e) = inr e
front-or-last d x [] q s (inr n) = absurd n
front-or-last d x (y ∷ ys) q s (inl e) = inl (inl e)
front-or-last d x (y ∷ ys) q s (inr r) =
    elim (front-or-last d y ys q.1 s r) [
      | inl o ↦ inl (inr (subst (λ n. Has (starts_from n d (length ys)) s) q.0 o))
      | inr e ↦ inr e
    ]

front_below :
    (d x : ℕ) (xs : List ℕ)
    → Steps d x xs
    → Ascending (x ∷ xs)
    → (s : ℕ)
    → Has (starts_from x d (length xs)) s
    → Has (x ∷ xs) s × (s < last_of x xs)
unfolding starts_from last_of
front_below d x [] q a s r = absurd r
front_below d x (y ∷ ys) q a s (inl e) = (inl e, omega (arith, a.0 (last_of y ys) (has_last y ys)))
front_below d x (y ∷ ys) q a s (inr r) =
    let o : Has (y ∷ ys) s × (s < last_of y ys) =
    front_below d y ys q.1 a.1 s (subst (λ n. Has (starts_from n d (length ys)) s) (sym q.0) r)
    in
    (inr o.0, o.1)

front-ascending : (d x : ℕ) (xs : List ℕ) → Steps d x xs → Ascending (x ∷ xs) → Ascending (starts_from x d (length xs))
unfolding starts_from
front-ascending d x [] q a = tt
front-ascending d x (y ∷ ys) q a =
    subst (λ n. Ascending (x ∷ starts_from n d (length ys))) q.0
    (λ s r. a.0 s (front_below d y ys q.1 a.1 s r).0, front-ascending d y ys q.1 a.1)

-- The starts of a stage that is entered, if they rise and are even.
module _ (tests : Tests) (h xs : List ℕ) (z : ℕ) (up : Ascending xs) (even : Even xs) where
  -- A start that was listed is listed still, or set aside.
  pub enter-keeps :
      (s : ℕ)
      → Has xs s
      → Has (enter tests h xs z).listed s ⊎ Has (starts_of (enter tests h xs z).aside) s
  unfolding starts_of last_of
  enter-keeps s q =
      enter-cases tests h (λ e. Has e.listed s ⊎ Has (starts_of e.aside) s) xs z
      (λ f. inl (has_left xs (z ∷ []) s q))
      (λ b.
      elim
      (front-or-last (b.y - b.x) b.x (b.y ∷ b.more) (subst Even b.shape even) s
      (subst (λ l. Has l s) b.shape q)) [
        | inl r ↦ inr (rw append-nil r)
        | inr e ↦ inl (inl e)
      ])

  -- A start that is set aside was listed, and is not listed then.
  pub enter-drops :
      ((s : ℕ) → Has xs s → s < z)
      → (s : ℕ)
      → Has (starts_of (enter tests h xs z).aside) s
      → Has xs s × (Has (enter tests h xs z).listed s → ⊥)
  unfolding starts_of last_of
  enter-drops above s =
      enter-cases tests h (λ e. Has (starts_of e.aside) s → Has xs s × (Has e.listed s → ⊥)) xs z
      (λ f q. absurd q)
      (λ b q.
      let r : Has (b.x ∷ b.y ∷ b.more) s × (s < last_of b.y b.more) =
      front_below (b.y - b.x) b.x (b.y ∷ b.more) (subst Even b.shape even)
      (subst Ascending b.shape up) s (rw append-nil at q)
      in
      let o : last_of b.y b.more < z = above (last_of b.y b.more) (breaks-last tests h xs z b) in
      (rw b.shape r.0, λ l. elim l [ inl e ↦ omega arith | inr m ↦ elim m [ inl e ↦ omega arith | inr n ↦ n ] ]))

  -- No start is set aside twice.
  pub enter-once : (s : ℕ) → times s (starts_of (enter tests h xs z).aside) ≤ 1
  unfolding starts_of
  enter-once s =
      enter-cases tests h (λ e. times s (starts_of e.aside) ≤ 1) xs z (λ f. times-ascending [] s tt)
      (λ b.
      rw append-nil
      (times-ascending _ s
      (front-ascending (b.y - b.x) b.x (b.y ∷ b.more) (subst Even b.shape even) (subst Ascending b.shape up))))
