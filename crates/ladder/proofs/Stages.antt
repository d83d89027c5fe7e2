-- After every byte of a stream the stages are in order (Aged.antt), and the byte does what Byte.antt says; Visited.antt has one byte.
use Prim.Native.Nat.{ℕ, zero, suc, ◌≤◌, ◌<◌}
use mathlib.Core.Path.{◌≡◌, refl, sym, subst, ◌∙◌}
use mathlib.Core.List.{List}
use native.Mathlib.Omega.{arith}
use lib.ListN.{length, take}
use lib.Seq.{length-take-le}
use Rattle.ladder.specs.Prefix.{levels}
use Rattle.ladder.specs.Ladder.{Tests, step, after, answer_at}
use Rattle.ladder.proofs.Byte.{Stepped, byte_at, entered, asides, ripes, rung}
use Rattle.ladder.proofs.Step.{step-closed}
pub use Rattle.ladder.proofs.Aged.{Aged, Staged, ripe-head, unripe}
pub use Rattle.ladder.proofs.Visited.{
  Met,
  Kept,
  Taken,
  Comes,
  rest-view,
  rest_has,
  has_rest,
  rest-ascending,
  rest_below,
  rest-unripe,
  entered-cases,
  entered-has,
  entered-unripe,
  next-staged,
}

module _ (tests : Tests) (h : List ℕ) (long : 1 ≤ tests.length) where
  meets : (t : ℕ) → t < length h → Staged tests.length t (after tests h t) → Met (byte_at tests h t) t
  meets t l ok = record { now = length-take-le (suc t) h l; ok = ok }

  -- The stages are in order after every byte.
  pub after-staged : (t : ℕ) → t ≤ length h → Staged tests.length t (after tests h t)
  unfolding after
  after-staged zero l =
      record {
        aged = λ i. record { ascends = tt; old = λ s q. absurd q; young = λ s q. absurd q };
        empty = λ i k. refl;
      }
  after-staged (suc t) l =
      let w : Met (byte_at tests h t) t = meets t l (after-staged t (omega arith)) in
      let q : Stepped (byte_at tests h t) (step tests (take (suc t) h) (after tests h t)) =
      step-closed (byte_at tests h t) w.ok.empty long
      in
      record {
        aged = λ i. subst (Aged tests.length (suc t) i) (sym (q.stage i)) ((next-staged w).aged i);
        empty = λ i k. q.stage i ∙ (next-staged w).empty i k;
      }

  -- Every byte of a stream comes upon stages that are in order, and does what Byte.antt says.
  pub met : (t : ℕ) → t < length h → Met (byte_at tests h t) t
  met t l = meets t l (after-staged t (omega arith))

  pub byte-closed :
      (t : ℕ)
      → t < length h
      → Stepped (byte_at tests h t) (step tests (take (suc t) h) (after tests h t))
  byte-closed t l = step-closed (byte_at tests h t) (met t l).ok.empty long

  pub after-stage :
      (t : ℕ)
      → t < length h
      → (i : ℕ)
      → after tests h (suc t) i ≡ (entered (byte_at tests h t) i).listed
  unfolding after
  after-stage t l i = (byte-closed t l).stage i

  -- The answer to a byte in closed form.
  pub answer-ring : (t : ℕ) → t < length h → (answer_at tests h (suc t)).ring ≡ rung (byte_at tests h t)
  unfolding answer_at
  answer-ring t l = (byte-closed t l).ring

  pub answer-aside :
      (t : ℕ)
      → t < length h
      → (answer_at tests h (suc t)).aside ≡ asides (byte_at tests h t) (levels tests.length)
  unfolding answer_at
  answer-aside t l = (byte-closed t l).aside

  pub answer-comparisons :
      (t : ℕ)
      → t < length h
      → (answer_at tests h (suc t)).comparisons ≡ suc (ripes (byte_at tests h t) (levels tests.length))
  unfolding answer_at
  answer-comparisons t l = (byte-closed t l).comparisons
