-- The comparisons at a byte, exactly: one for P_0, and one for each stage that lists, before the byte, the start then due.
use Prim.Native.Nat.{ℕ, zero, suc, ◌+◌, ◌-◌, ◌≤◌, ◌<◌}
use mathlib.Core.Path.{◌≡◌, refl, ap, ◌∙◌}
use mathlib.Core.Bool.{Bool, true, false, cond, ◌&&◌}
use mathlib.Core.List.{List}
use native.Mathlib.Omega.{arith}
use lib.ListN.{length}
use lib.Dec.{leb}
use Rattle.ladder.specs.Prefix.{levels, prefix_length}
use Rattle.ladder.specs.Ladder.{Tests, Stages, lists, after, answer_at}
use Rattle.ladder.proofs.Byte.{byte_at, tested, ripes}
use Rattle.ladder.proofs.Stages.{met, answer-comparisons}

-- How many of the stages below n list the start t - |P_(i+1)|, for a pattern of m bytes.
unfoldable pub ripe_count : ℕ → ℕ → Stages → ℕ → ℕ
ripe_count m t stages zero = 0
ripe_count m t stages (suc i) =
    cond (leb (prefix_length m (suc i)) t && lists (stages i) (t - prefix_length m (suc i))) 1 0 + ripe_count m t stages i

at_most_one : (b : Bool) → cond b 1 0 ≤ 1
at_most_one true = omega arith
at_most_one false = omega arith

pub ripe_count-bound : (m t : ℕ) (stages : Stages) (n : ℕ) → ripe_count m t stages n ≤ n
unfolding ripe_count
ripe_count-bound m t stages zero = omega arith
ripe_count-bound m t stages (suc i) =
    let due : Bool = leb (prefix_length m (suc i)) t && lists (stages i) (t - prefix_length m (suc i)) in
    omega (arith, at_most_one due, ripe_count-bound m t stages i)

module _ (tests : Tests) (h : List ℕ) (long : 1 ≤ tests.length) where
  ripes-count :
      (t : ℕ)
      → t < length h
      → (n : ℕ)
      → ripes (byte_at tests h t) n ≡ ripe_count tests.length (suc t) (after tests h t) n
  unfolding ripes ripe_count tested
  ripes-count t l zero = refl
  ripes-count t l (suc i) = rw ((met tests h long t l).now, ripes-count t l i)

  pub count-exact :
      (t : ℕ)
      → t < length h
      → (answer_at tests h (suc t)).comparisons ≡ suc (ripe_count tests.length (suc t) (after tests h t) (levels tests.length))
  count-exact t l = answer-comparisons tests h long t l ∙ ap suc (ripes-count t l (levels tests.length))
