-- In a stage of two or more starts, the blocks from each start to the next agree with the first such block, if the test of two
-- blocks is an equivalence.
use Prim.Native.Nat.{ℕ, zero, suc, ◌-◌, ◌≤◌, ◌<◌}
use mathlib.Core.Path.{◌≡◌, refl, subst}
use mathlib.Core.Logic.{inl, inr}
use mathlib.Core.Bool.{Bool, true}
use mathlib.Core.List.{List, [], ◌∷◌, ◌++◌}
use native.Mathlib.Omega.{arith}
use lib.ListN.{length, take}
use Rattle.ladder.specs.Prefix.{block}
use Rattle.ladder.specs.Ladder.{Tests, last_of, after}
use Rattle.ladder.proofs.Starts.{Has, has_last}
use Rattle.ladder.proofs.Blocks.{block-take}
use Rattle.ladder.proofs.Enter.{Fits, enter-cases}
use Rattle.ladder.proofs.Byte.{Byte, byte_at, due, rest, entered}
use Rattle.ladder.proofs.Visited.{Met, rest-view, rest_below, entered-cases}
use Rattle.ladder.proofs.Stages.{met, after-stage}
use Rattle.ladder.proofs.Even.{continues-gap}
pub use Rattle.ladder.proofs.Even.{Steps, Even, steps-last, steps-starts, even-last, after-even}

-- A test of blocks that is an equivalence.
pub record Equivalence (agree : List ℕ → List ℕ → Bool) : Type 0 where
  pub self : (u : List ℕ) → agree u u ≡ true
  pub back : (u v : List ℕ) → agree u v ≡ true → agree v u ≡ true
  pub on : (u v w : List ℕ) → agree u v ≡ true → agree v w ≡ true → agree u w ≡ true

module _ (agree : List ℕ → List ℕ → Bool) (h : List ℕ) where
  -- The d bytes behind every start of x ∷ xs but the last agree with e.
  abbrev pub Blocks : ℕ → List ℕ → ℕ → List ℕ → Type 0
  Blocks d e x [] = Unit {0}
  Blocks d e x (y ∷ ys) = (agree (block h x d) e ≡ true) × Blocks d e y ys

  -- .. with the bytes from the first start to the second.
  abbrev pub Alike : List ℕ → Type 0
  Alike [] = Unit {0}
  Alike (x ∷ []) = Unit {0}
  Alike (x ∷ y ∷ more) = Blocks (y - x) (block h x (y - x)) x (y ∷ more)

  blocks-snoc :
      (d : ℕ) (e : List ℕ) (x z : ℕ) (xs : List ℕ)
      → Blocks d e x xs
      → agree (block h (last_of x xs) d) e ≡ true
      → Blocks d e x (xs ++ z ∷ [])
  unfolding last_of
  blocks-snoc d e x z [] q a = (a, tt)
  blocks-snoc d e x z (y ∷ ys) q a = (q.0, blocks-snoc d e y z ys q.1 a)

  module _ (equivalence : Equivalence agree) where
    blocks_to : (d : ℕ) (e f : List ℕ) (x : ℕ) (xs : List ℕ) → agree e f ≡ true → Blocks d e x xs → Blocks d f x xs
    blocks_to d e f x [] a q = tt
    blocks_to d e f x (y ∷ ys) a q = (equivalence.on (block h x d) e f q.0 a, blocks_to d e f y ys a q.1)

    alike-tail : (x : ℕ) (xs : List ℕ) → Even (x ∷ xs) → Alike (x ∷ xs) → Alike xs
    alike-tail x [] e q = tt
    alike-tail x (y ∷ []) e q = tt
    alike-tail x (y ∷ z ∷ zs) e q =
        subst (λ d. Blocks d (block h y d) y (z ∷ zs)) (omega arith)
        (blocks_to (y - x) (block h x (y - x)) (block h y (y - x)) y (z ∷ zs)
        (equivalence.back (block h y (y - x)) (block h x (y - x)) q.1.0) q.1)

module _ (tests : Tests) (h : List ℕ) (equivalence : Equivalence tests.alike) where
  abbrev Like : List ℕ → Type 0
  Like = Alike tests.alike h

  like-snoc :
      (xs : List ℕ) (T z : ℕ)
      → z ≤ T
      → Like xs
      → ((s : ℕ) → Has xs s → s < z)
      → Fits tests (take T h) xs z
      → Like (xs ++ z ∷ [])
  like-snoc [] T z l q below f = tt
  like-snoc (x ∷ []) T z l q below f = (equivalence.self (block h x (z - x)), tt)
  like-snoc (x ∷ y ∷ more) T z l q below f =
      let last : ℕ = last_of y more in
      let gap : z - last ≡ y - x = (continues-gap tests (take T h) x y last z f).0 in
      let o : last < z = below last (inr (has_last y more)) in
      let u : y < z = below y (inr (inl refl)) in
      let agrees : tests.alike (block h last (y - x)) (block h x (y - x)) ≡ true =
      rw (gap, block-take T last (y - x) h (omega arith), block-take T x (y - x) h (omega arith))
      at (continues-gap tests (take T h) x y last z f).1
      in
      (q.0, blocks-snoc tests.alike h (y - x) (block h x (y - x)) y z more q.1 agrees)

  module _ (long : 1 ≤ tests.length) where
    entered-like :
        (t : ℕ)
        → t < length h
        → (i : ℕ)
        → Like (after tests h t i)
        → Like (entered (byte_at tests h t) i).listed
    entered-like t l i q =
        entered-cases w (λ x. Like x.listed) i rest-like
        (λ k.
        enter-cases tests (take (suc t) h) (λ x. Like x.listed) (rest c i) (due c i)
        (like-snoc (rest c i) (suc t) (due c i) (omega arith) rest-like (rest_below w i k))
        (λ b. (equivalence.self _, tt)))
      where
        c : Byte
        c = byte_at tests h t

        w : Met c t
        w = met tests h long t l

        even : Even (after tests h t i)
        even = after-even tests h long t (omega arith) i

        rest-like : Like (rest c i)
        rest-like =
            elim (rest-view w i) [
              | inl k ↦ rw k.same q
              | inr k ↦
                  rw k.left
                  (alike-tail tests.alike h equivalence (due c (suc i)) k.tail (subst Even k.shape even)
                  (subst Like k.shape q))
            ]

    -- After every byte the blocks between the starts of a stage agree with the first.
    pub after-alike : (t : ℕ) → t ≤ length h → (i : ℕ) → Alike tests.alike h (after tests h t i)
    unfolding after
    after-alike zero l i = tt
    after-alike (suc t) l i =
        rw (after-stage tests h long t l i) (entered-like t l i (after-alike t (omega arith) i))
