-- The digits of a number: one that is below ten is its own digit, else the last digit stands behind the digits of the tenth; and how many there are.
-- Assumes nothing.
use Prim.Native.Nat.{ℕ, zero, suc, ◌+◌, ◌/◌, ◌%◌, ◌^◌, ◌≤◌, ◌<◌}
use mathlib.Core.Path.{◌≡◌}
use mathlib.Core.List.{[], ◌∷◌, ◌++◌}
use native.Mathlib.Nat.{lt_of_not-le}
use native.Mathlib.Decide.{dec_le}
use native.Mathlib.Omega.{arith}
use lib.ListN.{length, length-append}
use borrow.Author.Tests.{lt-ltb, le-ltb}
use Rattle.decimal.specs.Decimal.{digit, digits, decimal, put_limit, most_put}

digits-one : (f n : ℕ) → n < 10 → digits (suc f) n ≡ digit n ∷ []
unfolding digits
digits-one f n h = rw (lt-ltb n 10 h, digits)

digits_more : (f n : ℕ) → 10 ≤ n → digits (suc f) n ≡ digits f (n / 10) ++ digit (n % 10) ∷ []
unfolding digits
digits_more f n h = rw (le-ltb n 10 h, digits)

-- all fuel above the number serves alike
digits-fuel : (f g n : ℕ) → n < f → n < g → digits f n ≡ digits g n
digits-fuel zero g n a b = absurd (omega arith)
digits-fuel (suc f) zero n a b = absurd (omega arith)
digits-fuel (suc f) (suc g) n a b =
    elim (dec_le 10 n) [
      | yes k ↦ rw (digits_more f n k, digits_more g n k, digits-fuel f g (n / 10) (omega arith) (omega arith))
      | no k ↦ rw (digits-one f n (lt_of_not-le k), digits-one g n (lt_of_not-le k))
    ]

pub decimal-one : (n : ℕ) → n < 10 → decimal n ≡ digit n ∷ []
unfolding decimal
decimal-one n h = digits-one n n h

pub decimal-more : (n : ℕ) → 10 ≤ n → decimal n ≡ decimal (n / 10) ++ digit (n % 10) ∷ []
unfolding decimal
decimal-more n h = rw (digits_more n n h, digits-fuel n (suc (n / 10)) (n / 10) (omega arith) (omega arith))

-- one digit more than the tenth
pub length_more : (n : ℕ) → 10 ≤ n → length (decimal n) ≡ length (decimal (n / 10)) + 1
length_more n h = rw (decimal-more n h, length-append)

-- there is a digit
pub decimal-some : (n : ℕ) → 1 ≤ length (decimal n)
decimal-some n =
    elim (dec_le 10 n) [
      | yes k ↦ omega (arith, length_more n k)
      | no k ↦ rw (decimal-one n (lt_of_not-le k)) (omega arith)
    ]

-- a number below 10^(k+1) has at most k + 1 digits
pub decimal-length : (k n : ℕ) → n < 10 ^ suc k → length (decimal n) ≤ suc k
decimal-length zero n h = rw (decimal-one n (omega arith)) (omega arith)
decimal-length (suc k) n h =
    elim (dec_le 10 n) [
      | yes m ↦ omega (arith, length_more n m, decimal-length k (n / 10) (omega arith))
      | no m ↦ rw (decimal-one n (lt_of_not-le m)) (omega arith)
    ]

pub put-length : (n : ℕ) → n < put_limit → length (decimal n) ≤ most_put
put-length n h = decimal-length 19 n (omega arith)
