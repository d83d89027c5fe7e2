-- The digits of a text, read one by one: what they make behind those read, and that few enough of them fit 64 bits.
-- Assumes nothing.
use Prim.Native.Nat.{ℕ, suc, ◌+◌, ◌-◌, ◌*◌, ◌^◌, ◌≤◌, ◌<◌}
use mathlib.Core.Path.{◌≡◌, refl, ◌∙◌}
use mathlib.Core.Bool.{false, ◌&&◌, and-false}
use mathlib.Core.List.{List, [], ◌∷◌}
use native.Mathlib.Nat.{pow-suc, pow-le-pow_right}
use native.Mathlib.Numerals.{add-one}
use native.Mathlib.Omega.{arith}
use lib.ListN.{length, get_or, drop, drop_of_length-le}
use lib.Seq.{drop-cons}
use lib.Dec.{leb}
use borrow.Author.Tests.{le-leb, lt-leb, leb-true}
use Rattle.std.proofs.Common.{Option, None, Some, IfSome}
use Rattle.std.proofs.lemmas.Option.{none-some}
use Rattle.lists.proofs.Laws.{and_right}
use Rattle.lists.proofs.Cases.{by-test}
use Rattle.decimal.specs.Decimal.{is_digit, parsed_from, parsed_within, most_read, parsed}

-- a character below `0` or above `9` is no digit
pub low : (c : ℕ) → c < 48 → is_digit c ≡ false
low c l = rw (lt-leb 48 c l)

pub high : (c : ℕ) → 57 < c → is_digit c ≡ false
high c l = rw (lt-leb c 57 l, and-false)

-- The digits before i were read, and make this value.
pub record Read (text : List ℕ) (value i : ℕ) : Type 0 where
  pub within : i ≤ length text
  pub small : value < 10 ^ i
  pub same : parsed_from 0 text ≡ parsed_from value (drop i text)

pub read_none : (text : List ℕ) → Read text 0 0
read_none text = record { within = omega arith; small = omega arith; same = refl }

module _ (text : List ℕ) (value i : ℕ) (q : Read text value i) where
  pub read_all : length text ≤ i → parsed_from 0 text ≡ Some value
  unfolding parsed_from
  read_all l = q.same ∙ rw (drop_of_length-le text l)

  module _ (l : i < length text) where
    pub read-bad : is_digit (get_or text i 0) ≡ false → parsed_from 0 text ≡ None
    unfolding parsed_from
    read-bad e = q.same ∙ rw (drop-cons text i 0 l, parsed_from, e)

    -- the digits fit where as many as are read at most do
    pub fits :
        (most : ℕ)
        → 10 ^ most ≤ 2 ^ 64
        → length text ≤ most
        → get_or text i 0 - 48 ≤ 9
        → 10 * value + (get_or text i 0 - 48) < 2 ^ 64
    fits most wide m d =
        let up : 10 ^ suc i ≤ 10 ^ most = pow-le-pow_right {n = 10} (omega arith) {i = suc i} {j = most} (omega arith) in
        omega (arith, q.small, up, wide, pow-suc 10 i)

    pub read_more : 48 ≤ get_or text i 0 → get_or text i 0 ≤ 57 → Read text (10 * value + (get_or text i 0 - 48)) (i + 1)
    unfolding parsed_from
    read_more a b =
        record {
          within = omega arith;
          small = rw (add-one, pow-suc) (omega (arith, q.small));
          same = q.same ∙ rw (drop-cons text i 0 l, parsed_from, le-leb 48 (get_or text i 0) a, le-leb (get_or text i 0) 57 b, add-one);
        }

-- a text's length
module _ (most : ℕ) (text : List ℕ) where
  pub too_short : length text < 1 → parsed_within most text ≡ None
  unfolding parsed_within
  too_short l = rw (lt-leb 1 (length text) l)

  pub too_long : most < length text → parsed_within most text ≡ None
  unfolding parsed_within
  too_long l = rw (lt-leb (length text) most l, and-false)

  pub good_length : 1 ≤ length text → length text ≤ most → parsed_within most text ≡ parsed_from 0 text
  unfolding parsed_within
  good_length a b = rw (le-leb 1 (length text) a, le-leb (length text) most b)

-- so few digits make a small number
from-small :
    (text : List ℕ) (value read n : ℕ)
    → value < 10 ^ read
    → read + length text ≤ most_read
    → parsed_from value text ≡ Some n
    → n < 10 ^ most_read
unfolding parsed_from
from-small [] value read n small few e =
    let up : 10 ^ read ≤ 10 ^ most_read = pow-le-pow_right {n = 10} (omega arith) {i = read} {j = most_read} (omega arith) in
    let same : value ≡ n = cc in
    omega (arith, up)
from-small (c ∷ text) value read n small few e =
    by-test (is_digit c)
    (λ d.
    let high : c ≤ 57 = leb-true c 57 (and_right (leb 48 c) (leb c 57) d) in
    from-small text (10 * value + (c - 48)) (suc read) n (rw pow-suc (omega arith)) (omega arith) (rw d at e))
    (λ d. let z : None ≡ Some n = rw d at e in absurd (none-some n z))

parsed-small : (text : List ℕ) (n : ℕ) → parsed text ≡ Some n → n < 10 ^ most_read
unfolding parsed_within
parsed-small text n e =
    by-test (leb 1 (length text) && leb (length text) most_read)
    (λ h.
    let few : length text ≤ most_read = leb-true (length text) most_read (and_right (leb 1 (length text)) _ h) in
    from-small text 0 0 n (omega arith) (omega (arith, few)) (rw h at e))
    (λ h. let z : None ≡ Some n = rw h at e in absurd (none-some n z))

pub parsed-below : (text : List ℕ) → IfSome (parsed text) (λ n. n < 10 ^ most_read)
parsed-below text = go (parsed text) refl
  where
    go : (o : Option ℕ) → parsed text ≡ o → IfSome o (λ n. n < 10 ^ most_read)
    go None e = tt
    go (Some n) e = parsed-small text n e
