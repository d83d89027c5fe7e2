-- Squaring fills the beginning of the table of a key's powers, place by place.
-- Assumes nothing.
use Prim.Native.Nat.{ℕ, ◌+◌, ◌^◌, ◌<◌}
use mathlib.Core.Path.{◌≡◌, ◌∙◌}
use mathlib.Core.List.{List}
use native.Mathlib.Nat.{two-pow-succ}
use native.Mathlib.Numerals.{add-one}
use native.Mathlib.Decide.{ℕ_discrete}
use native.Mathlib.Omega.{arith}
use lib.ListN.{length, get_or, set, length-set}
use lib.Seq.{get_or-set_same, get_or-set_other}
use Rattle.fingerprint.specs.declared.Key.{Key}
use Rattle.fingerprint.specs.declared.Power.{Power}
use Rattle.fingerprint.specs.Fingerprint.{power, squared, no_power}
use Rattle.fingerprint.proofs.Laws.{square-power}

-- Of n places those below i are filled, and r to the next power of 2 is at hand.
pub record Doubling (key : Key) (n i : ℕ) (squares : List Power) (square : Power) : Type 0 where
  pub size : length squares ≡ n
  pub filled : (j : ℕ) → j < i → get_or squares j no_power ≡ power key (2 ^ j)
  pub next : square ≡ power key (2 ^ i)

-- one place more
pub doubling-step :
    (key : Key) (n i : ℕ) (squares : List Power) (square : Power)
    → Doubling key n i squares square → i < n → Doubling key n (i + 1) (set squares i square) (squared square)
doubling-step key n i squares square q l =
    record {
      size = length-set squares i square ∙ q.size;
      filled = λ j h. elim (ℕ_discrete j i) [
        | yes e ↦ rw e (get_or-set_same squares i square no_power (omega (arith, q.size)) ∙ q.next)
        | no e ↦ get_or-set_other squares i j square no_power e ∙ q.filled j (omega arith)
      ];
      next = rw (q.next, square-power key (2 ^ i), add-one, two-pow-succ i);
    }
