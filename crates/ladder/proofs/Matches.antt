-- Every listed start agrees with the tested beginning of its stage, so without a collision it is a true match.
use Prim.Native.Nat.{ℕ, zero, suc, ◌+◌, ◌≤◌, ◌<◌}
use mathlib.Core.Path.{◌≡◌, sym, subst, ◌∙◌}
use mathlib.Core.Logic.{inl, inr}
use mathlib.Core.Bool.{Bool, true}
use mathlib.Core.List.{List, List-discrete}
use native.Mathlib.Decide.{ℕ_discrete}
use native.Mathlib.Omega.{arith}
use lib.ListN.{length, take}
use lib.Seq.{length-take-le}
use Rattle.ladder.specs.Prefix.{block, levels, prefix_length, prefix}
use Rattle.ladder.specs.Ladder.{Tests, after}
use Rattle.ladder.specs.Claim.{Collision}
use Rattle.ladder.proofs.Starts.{Has}
use Rattle.ladder.proofs.Blocks.{block-take}
use Rattle.ladder.proofs.Byte.{byte_at, due}
use Rattle.ladder.proofs.Visited.{Comes, rest_has, entered-has}
use Rattle.ladder.proofs.Stages.{met, after-stage}

module _ (tests : Tests) (h : List ℕ) (long : 1 ≤ tests.length) where
  -- A start that enters a stage agrees with that stage's beginning.
  pub new-matched :
      (t : ℕ) (l : t < length h) (i : ℕ)
      → Comes (met tests h long t l) i
      → tests.matches i (block h (due (byte_at tests h t) i) (prefix_length tests.length i)) ≡ true
  new-matched t l i k =
      rw
      (block-take (suc t) (due (byte_at tests h t) i) (prefix_length tests.length i) h (omega (arith, k.place)))
      at k.fits

  -- So does every start that a stage lists.
  pub after-matched :
      (t : ℕ)
      → t ≤ length h
      → (i s : ℕ)
      → Has (after tests h t i) s
      → tests.matches i (block h s (prefix_length tests.length i)) ≡ true
  unfolding after
  after-matched zero l i s q = absurd q
  after-matched (suc t) l i s q =
      elim (entered-has (met tests h long t l) i s (subst (λ xs. Has xs s) (after-stage tests h long t l i) q)) [
        | inl r ↦ after-matched t (omega arith) i s (rest_has (met tests h long t l) i s r).0
        | inr r ↦
            subst (λ n. tests.matches i (block h n (prefix_length tests.length i)) ≡ true) r.0 (new-matched t l i r.1)
      ]

-- A block of the first n bytes that agrees with P_i is P_i, unless there is a collision.
pub true-match :
    (agree : List ℕ → List ℕ → Bool) (p h : List ℕ) (n i s : ℕ)
    → n ≤ length h
    → i ≤ levels (length p)
    → s + prefix_length (length p) i ≤ n
    → agree (block h s (prefix_length (length p) i)) (prefix p i) ≡ true
    → (Collision agree p (take n h) → ⊥)
    → block h s (prefix_length (length p) i) ≡ prefix p i
true-match agree p h n i s l k inside a clean =
    elim (List-discrete ℕ_discrete (block h s (prefix_length (length p) i)) (prefix p i)) [
      | yes e ↦ e
      | no d ↦
          let same : block (take n h) s (prefix_length (length p) i) ≡ block h s (prefix_length (length p) i) =
          block-take n s (prefix_length (length p) i) h inside
          in
          absurd
          (clean
          (record {
            start = s;
            index = i;
            tested = k;
            inside = omega (arith, length-take-le n h l);
            differs = λ e. d (sym same ∙ e);
            agrees = rw same a;
          }))
    ]

-- A collision stays one as the history grows.
pub collision-later :
    (agree : List ℕ → List ℕ → Bool) (p h : List ℕ) (t : ℕ)
    → t < length h
    → Collision agree p (take t h)
    → Collision agree p (take (suc t) h)
collision-later agree p h t l q =
    let n : ℕ = prefix_length (length p) q.index in
    let inside : q.start + n ≤ t = omega (arith, length-take-le t h (omega arith)) in
    let same : block (take (suc t) h) q.start n ≡ block (take t h) q.start n =
    block-take (suc t) q.start n h (omega arith) ∙ sym (block-take t q.start n h inside)
    in
    record {
      start = q.start;
      index = q.index;
      tested = q.tested;
      inside = omega (arith, length-take-le (suc t) h l);
      differs = λ e. q.differs (sym same ∙ e);
      agrees = rw same q.agrees;
    }
