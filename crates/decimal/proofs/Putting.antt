-- Digits in a buffer: where there is room they are stored one by one, from the last to the first; where there is none, nothing is.
-- Assumes nothing.
use Prim.Native.Nat.{ℕ, zero, suc, ◌+◌, ◌-◌, ◌/◌, ◌%◌, ◌≤◌, ◌<◌}
use mathlib.Core.Path.{◌≡◌, refl, sym, ◌∙◌, ap}
use mathlib.Core.List.{List, [], ◌∷◌, ◌++◌}
use native.Mathlib.Nat.{lt_of_not-le}
use native.Mathlib.Decide.{dec_le}
use native.Mathlib.Numerals.{add-one}
use native.Mathlib.Omega.{arith}
use lib.ListN.{length, set, length-append}
use lib.Seq.{sets, sets-eq}
use borrow.Author.Tests.{le-leb, lt-leb}
use Rattle.lists.proofs.Stores.{sets_last}
use Rattle.decimal.specs.Decimal.{digit, decimal, place_behind, buffer_with}
use Rattle.decimal.proofs.Digits.{decimal-one, decimal-more, length_more}

-- The last k digits of n.
unfoldable pub last_digits : ℕ → ℕ → List ℕ
last_digits zero n = []
last_digits (suc k) n = last_digits k (n / 10) ++ digit (n % 10) ∷ []

length-last : (k n : ℕ) → length (last_digits k n) ≡ k
unfolding last_digits
length-last zero n = refl
length-last (suc k) n = length-append (last_digits k (n / 10)) (digit (n % 10) ∷ []) ∙ omega (arith, length-last k (n / 10))

-- as many digits as n has are all of them
all-digits : (f n : ℕ) → n < f → last_digits (length (decimal n)) n ≡ decimal n
unfolding last_digits
all-digits zero n h = absurd (omega arith)
all-digits (suc f) n h =
    elim (dec_le 10 n) [
      | yes k ↦
          rw (length_more n k, add-one, decimal-more n k)
          (ap (λ (l : List ℕ). l ++ digit (n % 10) ∷ []) (all-digits f (n / 10) (omega arith)))
      | no k ↦ rw (decimal-one n (lt_of_not-le k)) (ap (λ (d : ℕ). digit d ∷ []) (omega arith))
    ]

pub last-all : (n : ℕ) → last_digits (length (decimal n)) n ≡ decimal n
last-all n = all-digits (suc n) n (omega arith)

-- The digits are stored from the place behind them down: the last of those that are left may be stored before the others.
pub last-digit :
    (l : List ℕ) (at place n : ℕ)
    → at < place
    → sets (set l (place - 1) (digit (n % 10))) at (last_digits (place - 1 - at) (n / 10)) ≡ sets l at (last_digits (place - at) n)
unfolding last_digits
last-digit l at place n h =
    let k : ℕ = place - 1 - at in
    let rest : List ℕ = last_digits k (n / 10) in
    let here : place - 1 ≡ at + length rest = omega (arith, length-last k (n / 10)) in
    let more : place - at ≡ suc k = omega arith in
    ap (λ (m : ℕ). sets (set l m (digit (n % 10))) at rest) here
    ∙ sym (sets_last rest l at (digit (n % 10)))
    ∙ ap (λ (m : ℕ). sets l at (last_digits m n)) (sym more)

module _ (buf : List ℕ) (at n : ℕ) where
  pub put-room :
      at + length (decimal n) ≤ length buf
      → (place_behind buf at n ≡ at + length (decimal n)) × (buffer_with buf at n ≡ sets buf at (decimal n))
  unfolding place_behind buffer_with
  put-room h = rw (le-leb (at + length (decimal n)) (length buf) h) (refl, sym (sets-eq (decimal n) buf at h))

  pub put_full : length buf < at + length (decimal n) → (at ≡ place_behind buf at n) × (buf ≡ buffer_with buf at n)
  unfolding place_behind buffer_with
  put_full h = rw (lt-leb (at + length (decimal n)) (length buf) h) (refl, refl)
