-- Whether a field's bytes are there: what the tests of places decide.
-- Assumes nothing.
use Prim.Native.Nat.{ℕ, ◌+◌, ◌-◌, ◌^◌, ◌≤◌, ◌<◌}
use mathlib.Core.Path.{◌≡◌, sym, ◌∙◌, ap}
use mathlib.Core.Bool.{Bool, true, false}
use mathlib.Core.List.{List}
use native.Mathlib.Nat.{one-le-pow}
use native.Mathlib.Decide.{dec_le}
use native.Mathlib.Omega.{arith}
use lib.Dec.{leb}
use lib.ListN.{length, take, drop, length-drop}
use lib.Seq.{length-take-le}
use borrow.Author.Tests.{le-leb, lt-leb, leb-true}
use Rattle.fields.specs.declared.Width.{Width}
use Rattle.fields.specs.declared.Width.TheVariants.{Half, Word, Double}
use Rattle.std.proofs.Common.{Some, None}
use Rattle.fields.specs.Fields.{little_endian, number_from, number_at, pasted}
use Rattle.fields.specs.Calls.{width_of, field_at, number_of}
use Rattle.fields.proofs.Numbers.{length-number, number-part}
use Rattle.fields.proofs.Pasted.{part-pasted}
use borrow.Rule.Slice.PartMut.{put_mid}

-- The sum of place and width is not made: it could wrap.
pub reaches-by : (len at n : ℕ) → n ≤ len → leb at (len - n) ≡ leb (at + n) len
reaches-by len at n h =
    elim (dec_le at (len - n)) [
      | yes l ↦ le-leb at (len - n) l ∙ sym (le-leb (at + n) len (omega arith))
      | no l ↦ lt-leb at (len - n) (omega arith) ∙ sym (lt-leb (at + n) len (omega arith))
    ]

-- what the test said, of the width
pub told :
    (s : List ℕ) (at : ℕ) {n w : ℕ} {ok b : Bool} → n ≡ w → ok ≡ leb (at + n) (length s) → ok ≡ b → leb (at + w) (length s) ≡ b
told s at e t h = rw (← e) (sym t ∙ h)

-- 0 can be said in any width, and a width is within 8 bytes.
pub some_number : (w : ℕ) → 0 < 256 ^ w
some_number w = one-le-pow w 256 (omega arith)

pub width-bound : (width : Width) → width_of width ≤ 8
width-bound Half = omega arith
width-bound Word = omega arith
width-bound Double = omega arith

module _ (s : List ℕ) (at w : ℕ) where
  pub field-missing : leb (at + w) (length s) ≡ false → None ≡ field_at s at w
  unfolding field_at
  field-missing e = rw e

  pub field-there : (n : ℕ) → leb (at + w) (length s) ≡ true → n ≡ number_from s at w → Some n ≡ field_at s at w
  unfolding field_at
  field-there n e h = rw e (ap Some h)

  -- a part of as many bytes is read as the field
  pub part-read :
      (k n : ℕ)
      → leb (at + w) (length s) ≡ true
      → k ≡ w
      → n ≡ number_from (take k (drop at s)) 0 (length (take k (drop at s)))
      → n ≡ number_from s at w
  part-read k n h e r =
      let room : at + w ≤ length s = leb-true (at + w) (length s) h in
      r ∙ rw (e, length-take-le w (drop at s) (omega (arith, length-drop at s))) (number-part s at w room)

  pub part-bound :
      (k n : ℕ) → leb (at + w) (length s) ≡ true → k ≡ w → n < 256 ^ length (take k (drop at s)) → n < 256 ^ w
  part-bound k n h e b =
      let room : at + w ≤ length s = leb-true (at + w) (length s) h in
      let long : length (take w (drop at s)) ≡ w = length-take-le w (drop at s) (omega (arith, length-drop at s)) in
      rw long at (rw e at b)

  -- a number that is written to a part of as many bytes
  pub part-written :
      (k n : ℕ) (part : List ℕ)
      → leb (at + w) (length s) ≡ true
      → k ≡ w
      → part ≡ little_endian (length (take k (drop at s))) n
      → put_mid at k s part ≡ pasted s at (little_endian w n)
  part-written k n part h e r =
      let room : at + w ≤ length s = leb-true (at + w) (length s) h in
      let long : length (take k (drop at s)) ≡ w = rw e (length-take-le w (drop at s) (omega (arith, length-drop at s))) in
      rw (r, long) (part-pasted s at k (little_endian w n) (length-number w n ∙ sym e))

  -- the number of what is found
  pub field-number : number_of (field_at s at w) ≡ number_at s at w
  unfolding field_at number_at
  field-number =
      elim (dec_le (at + w) (length s)) [
        | yes h ↦ rw (le-leb (at + w) (length s) h)
        | no h ↦ rw (lt-leb (at + w) (length s) (omega arith))
      ]

  -- What a field that was found, or that is missing, says of the slice.
  pub is-missing : None ≡ field_at s at w → length s < at + w
  unfolding field_at
  is-missing e =
      elim (dec_le (at + w) (length s)) [
        | yes h ↦ let z : ◌≡◌ {A = ℕ} 0 1 = cc (rw (le-leb (at + w) (length s) h) at e) in omega arith
        | no h ↦ omega arith
      ]

  pub is-there : (n : ℕ) → Some n ≡ field_at s at w → (at + w ≤ length s) × (n ≡ number_at s at w)
  unfolding field_at number_at
  is-there n e =
      elim (dec_le (at + w) (length s)) [
        | yes h ↦ (h, rw (le-leb (at + w) (length s) h) (cc (rw (le-leb (at + w) (length s) h) at e)))
        | no h ↦ let z : ◌≡◌ {A = ℕ} 0 1 = cc (rw (lt-leb (at + w) (length s) (omega arith)) at e) in absurd (omega arith)
      ]
