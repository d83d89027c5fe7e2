-- A quantity, read byte by byte: what it is behind the bytes read, and that they fit 64 bits.
-- Assumes nothing.
use Prim.Native.Nat.{ℕ, zero, suc, ◌+◌, ◌-◌, ◌*◌, ◌^◌, ◌≤◌, ◌<◌}
use mathlib.Core.Path.{◌≡◌, refl, sym, ◌∙◌}
use mathlib.Core.List.{List}
use native.Mathlib.Nat.{pow-suc, pow-le-pow_right}
use native.Mathlib.Numerals.{add-one}
use native.Mathlib.Omega.{arith}
use lib.ListN.{length}
use borrow.Author.Tests.{lt-ltb, le-ltb, le-leb, lt-leb}
use Rattle.std.proofs.Common.{Some, None}
use Rattle.midi_file.specs.File.{byte}
use Rattle.midi_file.specs.Track.{quantity_from, quantity_at}

-- Bytes from a place on were read, and make this value; so many may follow.
pub record Passed (track : List ℕ) (from value at left : ℕ) : Type 0 where
  pub few : left ≤ 4
  pub small : value < 128 ^ (4 - left)
  pub same : quantity_at track from ≡ quantity_from left value track at

pub passed_none : (track : List ℕ) (from : ℕ) → Passed track from 0 from 4
passed_none track from = record { few = omega arith; small = omega arith; same = refl }

-- the next byte, where there is one, is the last or not
module _ (track : List ℕ) (value at : ℕ) where
  no_byte : (left : ℕ) → length track ≤ at → quantity_from left value track at ≡ None
  unfolding quantity_from
  no_byte zero l = refl
  no_byte (suc left) l = rw (le-leb (length track) at l)

  module _ (l : at < length track) where
    last_byte :
        (left : ℕ)
        → 0 < left
        → byte track at < 128
        → quantity_from left value track at ≡ Some (record { value = 128 * value + byte track at; behind = at + 1 })
    unfolding quantity_from
    last_byte zero m b = absurd (omega arith)
    last_byte (suc left) m b = rw (lt-leb (length track) at l, lt-ltb (byte track at) 128 b, add-one)

    one_byte :
        (left : ℕ)
        → 0 < left
        → 128 ≤ byte track at
        → quantity_from left value track at ≡ quantity_from (left - 1) (128 * value + (byte track at - 128)) track (at + 1)
    unfolding quantity_from
    one_byte zero m b = absurd (omega arith)
    one_byte (suc left) m b =
        let e : suc left - 1 ≡ left = omega arith in
        rw (lt-leb (length track) at l, le-ltb (byte track at) 128 b, add-one, e)

module _ (track : List ℕ) (from value at left : ℕ) (q : Passed track from value at left) where
  pub passed-out : left ≤ 0 → None ≡ quantity_at track from
  unfolding quantity_from
  passed-out m = let e : left ≡ 0 = omega arith in sym (rw e at q.same)

  pub passed-cut : length track ≤ at → None ≡ quantity_at track from
  passed-cut l = sym (q.same ∙ no_byte track value at left l)

  -- the same, with other words for the place and for how many may follow
  pub passed-moved : (place some : ℕ) → at ≡ place → left ≡ some → Passed track from value place some
  passed-moved place some a l = rw (← a, ← l) q

  module _ (m : 0 < left) where
    pub passed-room : 128 * value + 255 < 2 ^ 64
    passed-room =
        omega (arith, q.small, pow-le-pow_right {n = 128} (omega arith) {i = 4 - left} {j = 3} (omega arith))

    module _ (l : at < length track) where
      pub passed-last : byte track at < 128 → Some (record { value = 128 * value + byte track at; behind = at + 1 }) ≡ quantity_at track from
      passed-last b = sym (q.same ∙ last_byte track value at l left m b)

      pub passed-more :
          byte track at < 256
          → 128 ≤ byte track at
          → Passed track from (128 * value + (byte track at - 128)) (at + 1) (left - 1)
      passed-more w b =
          let e : 4 - (left - 1) ≡ suc (4 - left) = omega (arith, q.few) in
          record {
            few = omega (arith, q.few);
            small = rw (e, pow-suc) (omega (arith, q.small));
            same = q.same ∙ one_byte track value at l left m b;
          }
