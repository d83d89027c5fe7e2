-- A list from a place on, byte by byte; and a quantity that is written there is read back.
-- Assumes nothing.
use Prim.Native.Nat.{ℕ, zero, suc, ◌+◌, ◌-◌, ◌*◌, ◌/◌, ◌%◌, ◌^◌, ◌≤◌, ◌<◌}
use mathlib.Core.Path.{◌≡◌, refl, sym, ◌∙◌, ap}
use mathlib.Core.Bool.{false}
use mathlib.Core.List.{List, [], ◌∷◌, ◌++◌, append_assoc}
use native.Mathlib.Nat.{zero-add, add-zero, pow-suc, div-lt_iff_lt-mul}
use native.Mathlib.Omega.{arith}
use lib.Dec.{eqb, leb}
use lib.ListN.{length, drop, length-append}
use lib.Seq.{drop-cons, drop-drop, drop-append_seam}
use borrow.Author.Tests.{lt-ltb, le-ltb, eqb-true, lt-leb}
use Rattle.std.proofs.Common.{Some}
use Rattle.lists.proofs.Cases.{by-test}
use Rattle.midi_file.specs.File.{byte}
use Rattle.midi_file.specs.Track.{quantity_from, quantity_at}
use Rattle.midi_laws.specs.Writer.{leading, quantity_bytes, quantity_limit}

-- From a place on the list is this one.
pub record From (list : List ℕ) (at : ℕ) (rest : List ℕ) : Type 0 where
  pub within : at + length rest ≡ length list
  pub here : drop at list ≡ rest

pub from_all : (list : List ℕ) → From list 0 list
from_all list = record { within = omega arith; here = refl }

module _ {list : List ℕ} {at : ℕ} where
  -- behind bytes, and behind one byte
  pub from-behind : (bytes rest : List ℕ) → From list at (bytes ++ rest) → From list (at + length bytes) rest
  from-behind bytes rest f =
      record {
        within = omega (arith, f.within, length-append bytes rest);
        here = sym (drop-drop (length bytes) at list) ∙ rw f.here (drop-append_seam bytes rest);
      }

  module _ {b : ℕ} {rest : List ℕ} (f : From list at (b ∷ rest)) where
    pub from-inside : at < length list
    from-inside = omega (arith, f.within)

    first_two : byte list at ∷ drop (suc at) list ≡ b ∷ rest
    first_two = sym (drop-cons list at 0 from-inside) ∙ f.here

    pub from_in : leb (length list) at ≡ false
    from_in = lt-leb (length list) at from-inside

    pub from_byte : byte list at ≡ b
    from_byte = let e = first_two in cc

    pub from_next : From list (suc at) rest
    from_next = record { within = omega (arith, f.within); here = let e = first_two in cc }

    -- a byte of a quantity that is read: one before the last, and the last
    module _ (left value : ℕ) where
      byte-before : 128 ≤ b → quantity_from (suc left) value list at ≡ quantity_from left (128 * value + (b - 128)) list (suc at)
      unfolding quantity_from
      byte-before h = rw (from_in, from_byte, le-ltb b 128 h)

      byte_last : b < 128 → quantity_from (suc left) value list at ≡ Some (record { value = 128 * value + b; behind = suc at })
      unfolding quantity_from
      byte_last h = rw (from_in, from_byte, lt-ltb b 128 h)

-- The bytes before the last: how many they are, and that they are read.
leading_length : (most n : ℕ) → length (leading most n) ≤ most
unfolding leading
leading_length zero n = omega arith
leading_length (suc most) n =
    by-test (eqb n 0) (λ e. rw e (omega arith))
    (λ e. rw (e, length-append) (omega (arith, leading_length most (n / 128))))

leading-read :
    (list : List ℕ) (at most n left : ℕ) (rest : List ℕ)
    → n < 128 ^ most
    → From list at (leading most n ++ rest)
    → quantity_from (length (leading most n) + left) 0 list at ≡ quantity_from left n list (at + length (leading most n))
unfolding leading
leading-read list at zero n left rest h f =
    let z : n ≡ 0 = omega arith in
    rw (zero-add, add-zero, z)
leading-read list at (suc most) n left rest h f =
    by-test (eqb n 0) (λ e. let z = eqb-true n 0 e in rw (e, zero-add, add-zero, z))
    (λ e.
    let before = leading most (n / 128) in
    let b : ℕ = 128 + n % 128 in
    let less : n / 128 < 128 ^ most = (div-lt_iff_lt-mul {k = 128} (omega arith)).1 (rw pow-suc at h) in
    let f' : From list at (before ++ b ∷ rest) = rw (e, append_assoc before (b ∷ []) rest) at f in
    let here = from-behind before (b ∷ rest) f' in
    let count : length before + 1 + left ≡ length before + suc left = omega arith in
    let value : 128 * (n / 128) + (b - 128) ≡ n = omega arith in
    let place : suc (at + length before) ≡ at + (length before + 1) = omega arith in
    rw (e, length-append before (b ∷ []), count)
    (leading-read list at most (n / 128) (suc left) (b ∷ rest) less f'
    ∙ byte-before here left (n / 128) (omega arith)
    ∙ rw (value, place)))

pub quantity-read :
    {list : List ℕ} {at : ℕ} (n : ℕ) (rest : List ℕ)
    → n < quantity_limit
    → From list at (quantity_bytes n ++ rest)
    → quantity_at list at ≡ Some (record { value = n; behind = at + length (quantity_bytes n) })
quantity-read {list} {at} n rest small f =
    let before = leading 3 (n / 128) in
    let last : ℕ = n % 128 in
    let f' : From list at (before ++ last ∷ rest) = rw (append_assoc before (last ∷ []) rest) at f in
    let here = from-behind before (last ∷ rest) f' in
    let count : 4 ≡ length before + suc (3 - length before) = omega (arith, leading_length 3 (n / 128)) in
    let value : 128 * (n / 128) + last ≡ n = omega arith in
    let place : suc (at + length before) ≡ at + (length before + 1) = omega arith in
    ap (λ (k : ℕ). quantity_from k 0 list at) count
    ∙ leading-read list at 3 (n / 128) (suc (3 - length before)) (last ∷ rest) (omega arith) f'
    ∙ byte_last here (3 - length before) (n / 128) (omega arith)
    ∙ rw (length-append before (last ∷ []), value, place)
