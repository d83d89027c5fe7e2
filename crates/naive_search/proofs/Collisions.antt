-- A collision is a twin of a tested beginning. Assumes nothing.
use Prim.Native.Nat.{ℕ, ◌+◌, ◌*◌, ◌^◌, ◌<◌, ◌≤◌}
use mathlib.Core.Path.{◌≡◌, ap, ◌∙◌}
use mathlib.Core.Bool.{Bool}
use mathlib.Core.List.{List}
use native.Mathlib.Nat.{lt_of_not-le, pow-suc}
use native.Mathlib.Numerals.{add-one}
use native.Mathlib.Decide.{dec_le}
use native.Mathlib.Omega.{arith}
use lib.ListN.{length, take}
use lib.Pow.{pow_mono}
use lib.Seq.{length-take-le}
use borrow.Author.Count.{below_more}
use Rattle.fingerprint.specs.Fingerprint.{agree_under, numbered_key, print_number}
use Rattle.fingerprint.proofs.Laws.{same-eq, number_same}
use Rattle.ladder.specs.Prefix.{prefix, prefix_length, levels}
use Rattle.ladder.specs.Claim.{Collision}
use Rattle.ladder.proofs.Levels.{levels-reach, least-levels, early-length, length-within}
use Rattle.ladder.proofs.Blocks.{prefix-whole}
use Rattle.naive_search.specs.Search.{Decides, HasTwin}

prefix-length : (p : List ℕ) (i : ℕ) → length (prefix p i) ≡ prefix_length (length p) i
prefix-length p i = length-take-le (prefix_length (length p) i) p (length-within (length p) i)

collision-of :
    (key : ℕ) (p h : List ℕ) (i : ℕ) → i ≤ levels (length p) → HasTwin key (prefix p i) h → Collision (agree_under (numbered_key key)) p h
collision-of key p h i l (s, t) =
    record {
      start = s;
      index = i;
      tested = l;
      inside = rw (prefix-length p i) at t.inside;
      differs = rw (prefix-length p i) at t.differs;
      agrees = number_same _ _ (rw (prefix-length p i) at t.agrees);
    }

twin-of : (key : ℕ) (p h : List ℕ) (x : Collision (agree_under (numbered_key key)) p h) → HasTwin key (prefix p x.index) h
twin-of key p h x = (
  x.start,
  record {
    inside = rw (prefix-length p x.index) x.inside;
    differs = rw (prefix-length p x.index) x.differs;
    agrees = rw (prefix-length p x.index) (ap print_number (same-eq _ _ x.agrees));
  },
)

-- the tested beginnings of the lengths 1, 2, 4 .. below that of the pattern
early : (p : List ℕ) (i : ℕ) → i < levels (length p) → prefix p i ≡ take (2 ^ i) p
early p i l = ap (λ n. take n p) (early-length (length p) i l)

below : (m i : ℕ) → 2 ^ i < m → i < levels m
below m i l =
    elim (dec_le (levels m) i) [
      | yes a ↦ absurd (omega (arith, levels-reach m, pow_mono a))
      | no a ↦ lt_of_not-le a
    ]

-- A twin of such a beginning is a collision.
early-collision :
    (key : ℕ) (p h : List ℕ) (i : ℕ) → 2 ^ i < length p → HasTwin key (take (2 ^ i) p) h → Collision (agree_under (numbered_key key)) p h
early-collision key p h i l t =
    let lt : i < levels (length p) = below (length p) i l in
    collision-of key p h i (omega arith) (rw (early p i lt) t)

-- Where they have none, a collision is a twin of the whole pattern.
decides-whole :
    (key : ℕ) (p h : List ℕ) (i : ℕ) (r : Bool)
    → length p ≤ 2 ^ i
    → ((j : ℕ) → j < i → (2 ^ j < length p) × (HasTwin key (take (2 ^ j) p) h → ⊥))
    → Decides r (HasTwin key p h)
    → Decides r (Collision (agree_under (numbered_key key)) p h)
decides-whole key p h i r far low d =
    let all : levels (length p) ≡ i = least-levels (record { reaches = far; below = λ j l. (low j l).0 }) in
    record {
      only = λ e. collision-of key p h (levels (length p)) (omega arith) (rw (prefix-whole p) (d.only e));
      wherever =
          λ x.
          elim (dec_le (levels (length p)) x.index) [
            | yes a ↦
                let e : x.index ≡ levels (length p) = omega (arith, x.tested) in
                d.wherever (rw (ap (prefix p) e ∙ prefix-whole p) at (twin-of key p h x))
            | no a ↦
                let lt : x.index < levels (length p) = lt_of_not-le a in
                absurd ((low x.index (omega arith)).1 (rw (early p x.index lt) at (twin-of key p h x)))
          ];
    }

-- What is known where the beginning of n bytes is to be tried: n is a power of two, and the beginnings before it have no twin.
pub record Tried (key : ℕ) (p h : List ℕ) (n : ℕ) : Type 0 where
  pub index : ℕ
  pub power : n ≡ 2 ^ index
  pub none : (j : ℕ) → j < index → (2 ^ j < length p) × (HasTwin key (take (2 ^ j) p) h → ⊥)

pub tried-first : (key : ℕ) (p h : List ℕ) → Tried key p h 1
tried-first key p h = record { index = 0; power = omega arith; none = λ j l. absurd (omega arith) }

pub tried-next :
    (key : ℕ) (p h : List ℕ) (n : ℕ)
    → n < length p
    → (HasTwin key (take n p) h → ⊥)
    → Tried key p h n
    → Tried key p h (n * 2)
tried-next key p h n l clear x =
    let here : (2 ^ x.index < length p) × (HasTwin key (take (2 ^ x.index) p) h → ⊥)
    = (omega (arith, x.power), λ t. clear (rw x.power t))
    in
    record {
      index = x.index + 1;
      power = rw (add-one, pow-suc) (omega (arith, x.power));
      none = below_more _ _ x.none here;
    }

pub tried-collision :
    (key : ℕ) (p h : List ℕ) (n : ℕ)
    → n < length p
    → Tried key p h n
    → HasTwin key (take n p) h
    → Collision (agree_under (numbered_key key)) p h
tried-collision key p h n l x t = early-collision key p h x.index (omega (arith, x.power)) (rw x.power at t)

pub tried-whole :
    (key : ℕ) (p h : List ℕ) (n : ℕ) (r : Bool)
    → length p ≤ n
    → Tried key p h n
    → Decides r (HasTwin key p h)
    → Decides r (Collision (agree_under (numbered_key key)) p h)
tried-whole key p h n r far x d = decides-whole key p h x.index r (omega (arith, x.power)) x.none d
