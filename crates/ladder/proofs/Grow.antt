-- The stages and answers depend on the bytes taken alone: they are the same when more bytes follow.
use Prim.Native.Nat.{ℕ, zero, suc, ◌≤◌}
use mathlib.Core.Path.{◌≡◌, refl, ap₂}
use mathlib.Core.List.{List, ◌++◌}
use native.Mathlib.Omega.{arith}
use lib.ListN.{length}
use lib.Seq.{take-append-le}
use Rattle.ladder.specs.Ladder.{Tests, Stages, step, after, answer_at}

module _ (tests : Tests) (h more : List ℕ) where
  pub after-append : (t : ℕ) → t ≤ length h → after tests (h ++ more) t ≡ after tests h t
  unfolding after
  after-append zero l = refl
  after-append (suc t) l =
      ap₂ (λ (bytes : List ℕ) (stages : Stages). (step tests bytes stages).stages) (take-append-le (suc t) h more l)
      (after-append t (omega arith))

  pub answer-append : (n : ℕ) → n ≤ length h → answer_at tests (h ++ more) n ≡ answer_at tests h n
  unfolding answer_at
  answer-append zero l = refl
  answer-append (suc t) l =
      ap₂ (λ (bytes : List ℕ) (stages : Stages). (step tests bytes stages).answer) (take-append-le (suc t) h more l)
      (after-append t (omega arith))
