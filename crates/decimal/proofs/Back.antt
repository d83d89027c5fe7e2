-- Reading what was written gives the number back.
-- Assumes nothing.
use Prim.Native.Nat.{ℕ, zero, suc, ◌+◌, ◌*◌, ◌/◌, ◌%◌, ◌^◌, ◌<◌}
use mathlib.Core.Path.{◌≡◌, sym, ◌∙◌, ap}
use mathlib.Core.List.{List, [], ◌∷◌, ◌++◌, append-nil, append_assoc}
use native.Mathlib.Nat.{lt_of_not-le}
use native.Mathlib.Decide.{dec_le}
use native.Mathlib.Omega.{arith}
use borrow.Author.Tests.{le-leb}
use Rattle.std.proofs.Common.{Some}
use Rattle.decimal.specs.Decimal.{digit, decimal, parsed_from, parsed_within, most_read, parsed}
use Rattle.decimal.proofs.Digits.{decimal-one, decimal-more, decimal-some, decimal-length}
use Rattle.decimal.proofs.Reading.{good_length}

-- a digit is read
read-digit : (v d : ℕ) (rest : List ℕ) → d < 10 → parsed_from v (digit d ∷ rest) ≡ parsed_from (10 * v + d) rest
unfolding parsed_from
read-digit v d rest h =
    rw (le-leb 48 (48 + d) (omega arith), le-leb (48 + d) 57 (omega arith))
    (ap (λ (k : ℕ). parsed_from k rest) (omega arith))

-- the digits of a number are read, whatever stands behind them
read-digits : (f n : ℕ) (rest : List ℕ) → n < f → parsed_from 0 (decimal n ++ rest) ≡ parsed_from n rest
read-digits zero n rest l = absurd (omega arith)
read-digits (suc f) n rest l =
    elim (dec_le 10 n) [
      | yes k ↦
          rw (decimal-more n k, append_assoc)
          (read-digits f (n / 10) (digit (n % 10) ∷ rest) (omega arith)
          ∙ read-digit (n / 10) (n % 10) rest (omega arith)
          ∙ ap (λ (m : ℕ). parsed_from m rest) (omega arith))
      | no k ↦ rw (decimal-one n (lt_of_not-le k)) (read-digit 0 n rest (lt_of_not-le k) ∙ ap (λ (m : ℕ). parsed_from m rest) (omega arith))
    ]

-- a number of at most so many digits
pub read_back : (k n : ℕ) → n < 10 ^ suc k → parsed_within (suc k) (decimal n) ≡ Some n
unfolding parsed_from
read_back k n h =
    good_length (suc k) (decimal n) (decimal-some n) (decimal-length k n h)
    ∙ ap (parsed_from 0) (sym (append-nil (decimal n)))
    ∙ read-digits (suc n) n [] (omega arith)

-- what `put` writes `parse` reads, where it has no more digits than are read
pub parsed-decimal : (n : ℕ) → n < 10 ^ most_read → parsed (decimal n) ≡ Some n
parsed-decimal n h = read_back 9 n h
