-- A number in so many bytes: how many they are, how large it can be, and that it is read back from where it stands.
-- Assumes nothing.
use Prim.Native.Nat.{ℕ, zero, suc, ◌+◌, ◌*◌, ◌/◌, ◌%◌, ◌^◌, ◌≤◌, ◌<◌}
use mathlib.Core.Path.{◌≡◌, refl, ◌∙◌, ap}
use mathlib.Core.List.{List, [], ◌∷◌, ◌++◌}
use native.Mathlib.Nat.{add-zero, add-suc, pow-suc, pow-succ', pow-le-pow_right, div-lt_iff_lt-mul}
use native.Mathlib.Omega.{arith}
use native.Mathlib.Numerals.{add-one}
use lib.ListN.{length, get_or, take, drop, length-append}
use Rattle.std.proofs.Common.{reverse}
use Rattle.std.proofs.lemmas.List.{reverse-append}
use lib.Seq.{get_or-append-add, drop-cons}
use borrow.Author.Tests.{le-leb}
use Rattle.fields.specs.Fields.{little_endian, number_from, number_at}

pub length-number : (w n : ℕ) → length (little_endian w n) ≡ w
unfolding little_endian
length-number zero n = refl
length-number (suc w) n = ap suc (length-number w _)

-- What is read behind a front is what is read without it.
number_behind : (front s : List ℕ) (at w : ℕ) → number_from (front ++ s) (length front + at) w ≡ number_from s at w
unfolding number_from
number_behind front s at zero = refl
number_behind front s at (suc w) =
    rw (get_or-append-add front s at 0, ← add-suc) (ap (λ (n : ℕ). get_or s at 0 + 256 * n) (number_behind front s (suc at) w))

-- A number that so many bytes can say is read from its bytes.
number-first : (w n : ℕ) (rest : List ℕ) → n < 256 ^ w → number_from (little_endian w n ++ rest) 0 w ≡ n
unfolding number_from little_endian
number-first zero n rest h = omega arith
number-first (suc w) n rest h =
    let less : n / 256 < 256 ^ w = (div-lt_iff_lt-mul {k = 256} (omega arith)).1 (rw pow-suc at h) in
    let low : ℕ = n % 256 in
    let high = number_behind (low ∷ []) (little_endian w (n / 256) ++ rest) 0 w ∙ number-first w (n / 256) rest less in
    omega (arith, high)

pub number-back :
    (front : List ℕ) (w n : ℕ) (rest : List ℕ)
    → n < 256 ^ w
    → number_at (front ++ (little_endian w n ++ rest)) (length front) w ≡ n
unfolding number_at
number-back front w n rest h =
    let bytes : List ℕ = little_endian w n ++ rest in
    let room : length front + w ≤ length (front ++ bytes) =
    omega (arith, length-append front bytes, length-append (little_endian w n) rest, length-number w n)
    in
    rw (le-leb (length front + w) (length (front ++ bytes)) room)
    (rw add-zero at (number_behind front bytes 0 w) ∙ number-first w n rest h)

-- A number is read in a part of the bytes as where the part stands.
pub number-part : (s : List ℕ) (at w : ℕ) → at + w ≤ length s → number_from (take w (drop at s)) 0 w ≡ number_from s at w
unfolding number_from
number-part s at zero h = refl
number-part s at (suc w) h =
    let b : ℕ = get_or s at 0 in
    let rest : List ℕ = take w (drop (suc at) s) in
    ap (λ (l : List ℕ). number_from (take (suc w) l) 0 (suc w)) (drop-cons s at 0 (omega arith))
    ∙ ap (λ (n : ℕ). b + 256 * n) (number_behind (b ∷ []) rest 0 w ∙ number-part s (suc at) w (omega arith))

-- A loop that reads from the highest byte down: what one byte more makes of the bytes passed, and that there is room for it in 8 bytes.
pub number_more :
    (passed : List ℕ) (b number n : ℕ)
    → number ≡ number_from (reverse passed) 0 n
    → 256 * number + b ≡ number_from (reverse (passed ++ b ∷ [])) 0 (n + 1)
unfolding number_from
number_more passed b number n e =
    let high = number_behind (b ∷ []) (reverse passed) 0 n in
    rw (reverse-append passed (b ∷ []), add-one n, e, high) (omega arith)

pub number-below : (number b n : ℕ) → number < 256 ^ n → b < 256 → 256 * number + b < 256 ^ (n + 1)
number-below number b n h small = rw (add-one, pow-succ') (omega arith)

pub number-room : (number b n : ℕ) → number < 256 ^ n → b < 256 → n < 8 → 256 * number + b < 256 ^ 8
number-room number b n h small l = omega (arith, pow-le-pow_right {n = 256} (omega arith) {i = n} {j = 7} (omega arith))
