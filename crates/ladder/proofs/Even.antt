-- The starts of a stage are an arithmetic progression: the gaps from one to the next are equal.
use Prim.Native.Nat.{ℕ, zero, suc, ◌+◌, ◌-◌, ◌*◌, ◌≤◌, ◌<◌}
use mathlib.Core.Path.{◌≡◌, refl, ap, subst, ◌∙◌}
use mathlib.Core.Logic.{inl, inr}
use mathlib.Core.Bool.{true, and-eq-true_iff}
use mathlib.Core.List.{List, [], ◌∷◌, ◌++◌}
use native.Mathlib.Omega.{arith}
use lib.ListN.{length}
use lib.Dec.{eqb}
use borrow.Author.Tests.{eqb-true}
use Rattle.ladder.specs.Prefix.{block}
use Rattle.ladder.specs.Ladder.{Tests, last_of, after, continues}
use Rattle.ladder.specs.Claim.{starts_from}
use Rattle.ladder.proofs.Starts.{Has, Ascending, has_last}
use Rattle.ladder.proofs.Enter.{Fits, enter-cases, breaks-last}
use Rattle.ladder.proofs.Byte.{Byte, due, rest, entered}
use Rattle.ladder.proofs.Visited.{Met, rest-view, rest_below, entered-cases}
use Rattle.ladder.proofs.Stages.{met, after-stage}

-- The list xs goes on from x in steps of d.
abbrev pub Steps : ℕ → ℕ → List ℕ → Type 0
Steps d x [] = Unit {0}
Steps d x (y ∷ ys) = (y ≡ x + d) × Steps d y ys

-- The starts have equal gaps, namely that of the first two.
abbrev pub Even : List ℕ → Type 0
Even [] = Unit {0}
Even (x ∷ []) = Unit {0}
Even (x ∷ y ∷ more) = Steps (y - x) x (y ∷ more)

pub steps-last : (d x : ℕ) (xs : List ℕ) → Steps d x xs → last_of x xs ≡ x + d * length xs
unfolding last_of
steps-last d x [] q = omega arith
steps-last d x (y ∷ ys) q = steps-last d y ys q.1 ∙ omega arith

pub steps-starts : (d x : ℕ) (xs : List ℕ) → Steps d x xs → x ∷ xs ≡ starts_from x d (suc (length xs))
unfolding starts_from
steps-starts d x [] q = refl
steps-starts d x (y ∷ ys) q =
    ap (λ l. x ∷ l) (steps-starts d y ys q.1 ∙ ap (λ n. starts_from n d (suc (length ys))) q.0)

-- The last of two or more starts.
pub even-last : (x y : ℕ) (more : List ℕ) → Even (x ∷ y ∷ more) → last_of y more ≡ x + (y - x) * suc (length more)
unfolding last_of
even-last x y more q = steps-last (y - x) x (y ∷ more) q

-- The start before the last of a progression: the last one follows it at once.
pub record Prior (d : ℕ) (xs : List ℕ) (last : ℕ) : Type 0 where
  pub start : ℕ
  pub listed : Has xs start
  pub gap : start + d ≡ last
  pub next : (s : ℕ) → Has xs s → start < s → last ≤ s

pub prior :
    (d x y : ℕ) (more : List ℕ)
    → Steps d x (y ∷ more)
    → Ascending (x ∷ y ∷ more)
    → Prior d (x ∷ y ∷ more) (last_of y more)
unfolding last_of
prior d x y [] q a = record { start = x; listed = inl refl; gap = omega (arith, q.0); next = two }
  where
    two : (s : ℕ) → Has (x ∷ y ∷ []) s → x < s → y ≤ s
    two s (inl e) l = absurd (omega arith)
    two s (inr (inl e)) l = omega arith
    two s (inr (inr n)) l = absurd n
prior d x y (z ∷ zs) q a = go (prior d y z zs q.1 a.1)
  where
    go : Prior d (y ∷ z ∷ zs) (last_of z zs) → Prior d (x ∷ y ∷ z ∷ zs) (last_of z zs)
    go r = record { start = r.start; listed = inr r.listed; gap = r.gap; next = rest-next }
      where
        rest-next : (s : ℕ) → Has (x ∷ y ∷ z ∷ zs) s → r.start < s → last_of z zs ≤ s
        rest-next s (inl e) l = absurd (omega (arith, a.0 r.start r.listed))
        rest-next s (inr o) l = r.next s o l

even-tail : (x : ℕ) (xs : List ℕ) → Even (x ∷ xs) → Even xs
even-tail x [] q = tt
even-tail x (y ∷ []) q = tt
even-tail x (y ∷ z ∷ zs) q = subst (λ d. Steps d y (z ∷ zs)) (omega arith) q.1

steps-snoc : (d x z : ℕ) (xs : List ℕ) → Steps d x xs → z ≡ last_of x xs + d → Steps d x (xs ++ z ∷ [])
unfolding last_of
steps-snoc d x z [] q e = (e, tt)
steps-snoc d x z (y ∷ ys) q e = (q.0, steps-snoc d y z ys q.1 e)

-- What it is that a newcomer z continues.
pub continues-gap :
    (tests : Tests) (h : List ℕ) (x y last z : ℕ)
    → continues tests h x y last z ≡ true
    → (z - last ≡ y - x) × (tests.alike (block h last (z - last)) (block h x (y - x)) ≡ true)
continues-gap tests h x y last z e =
    let both : (eqb (z - last) (y - x) ≡ true) × (tests.alike (block h last (z - last)) (block h x (y - x)) ≡ true) =
    (and-eq-true_iff (eqb (z - last) (y - x)) (tests.alike (block h last (z - last)) (block h x (y - x)))).0 e
    in
    (eqb-true (z - last) (y - x) both.0, both.1)

even-snoc :
    (tests : Tests) (h xs : List ℕ) (z : ℕ)
    → Even xs
    → ((s : ℕ) → Has xs s → s < z)
    → Fits tests h xs z
    → Even (xs ++ z ∷ [])
even-snoc tests h [] z q below f = tt
even-snoc tests h (x ∷ []) z q below f = (omega (arith, below x (inl refl)), tt)
even-snoc tests h (x ∷ y ∷ more) z q below f =
    let gap : z - last_of y more ≡ y - x = (continues-gap tests h x y (last_of y more) z f).0 in
    let above : last_of y more < z = below (last_of y more) (inr (has_last y more)) in
    (q.0, steps-snoc (y - x) y z more q.1 (omega arith))

module _ {c : Byte} {t : ℕ} (w : Met c t) (i : ℕ) (e : Even (c.stages i)) where
  pub rest-even : Even (rest c i)
  rest-even =
      elim (rest-view w i) [
        | inl k ↦ rw k.same e
        | inr k ↦ rw k.left (even-tail (due c (suc i)) k.tail (subst Even k.shape e))
      ]

  pub entered-even : Even (entered c i).listed
  entered-even =
      entered-cases w (λ x. Even x.listed) i rest-even
      (λ k.
      enter-cases c.tests c.history (λ x. Even x.listed) (rest c i) (due c i)
      (even-snoc c.tests c.history (rest c i) (due c i) rest-even (rest_below w i k))
      (λ b.
      let above : last_of b.y b.more < due c i =
      rest_below w i k _ (breaks-last c.tests c.history (rest c i) (due c i) b)
      in
      (omega arith, tt)))

module _ (tests : Tests) (h : List ℕ) (long : 1 ≤ tests.length) where
  -- After every byte the gaps of a stage are equal.
  pub after-even : (t : ℕ) → t ≤ length h → (i : ℕ) → Even (after tests h t i)
  unfolding after
  after-even zero l i = tt
  after-even (suc t) l i =
      rw (after-stage tests h long t l i)
      (entered-even (met tests h long t l) i (after-even t (omega arith) i))
