-- The search for a twin from start to start. Assumes nothing.
use Prim.Native.Nat.{ℕ, ◌+◌, ◌≤◌, ◌<◌}
use mathlib.Core.Path.{◌≡◌, refl, sym, ap, ◌∙◌}
use mathlib.Core.Bool.{Bool, true, false, not}
use mathlib.Core.List.{List}
use native.Mathlib.Nat.{zero-add, lt_of_not-le}
use native.Mathlib.Decide.{dec_le}
use native.Mathlib.Omega.{arith}
use borrow.Author.Count.{below_more}
use lib.ListN.{length, take, get_or}
use Rattle.fingerprint.specs.Fingerprint.{
  fp,
  pushed,
  rest_by,
  extended,
  power,
  numbered_key,
  print_number,
  numbered_print,
  power_number,
  numbered_power,
}
use Rattle.ladder.specs.Claim.{Occurrence}
use Rattle.naive_search.specs.Search.{Decides, Twin, HasTwin, block_print}
use Rattle.naive_search.proofs.Decided.{never, decides-no, decides-yes}
use Rattle.naive_search.proofs.Bytes.{fp-front, fp-block}

-- What is known at a start: the fingerprints of the bytes before it and of those up to the end of its block, and that no start before it has a
-- twin.
pub record Slid (key : ℕ) (b h : List ℕ) (n start before upto : ℕ) : Type 0 where
  pub front : before ≡ print_number (fp (numbered_key key) (take start h))
  pub whole : upto ≡ print_number (fp (numbered_key key) (take (start + n) h))
  pub none : (s : ℕ) → s < start → Twin key b h s → ⊥

pub slid-first : (key : ℕ) (b h : List ℕ) (n upto : ℕ) → upto ≡ print_number (fp (numbered_key key) (take n h)) → Slid key b h n 0 0 upto
unfolding extended
slid-first key b h n upto e = record { front = refl; whole = rw zero-add e; none = λ s l. absurd (omega arith) }

-- One byte more, by numbers.
pub more-front :
    (key f i : ℕ) (h : List ℕ)
    → i < length h
    → f ≡ print_number (fp (numbered_key key) (take i h))
    → print_number (pushed (numbered_key key) (numbered_print f) (get_or h i 0)) ≡ print_number (fp (numbered_key key) (take (i + 1) h))
more-front key f i h l e =
    ap (λ (x : ℕ). print_number (pushed (numbered_key key) (numbered_print x) (get_or h i 0))) e
    ∙ ap print_number (sym (fp-front (numbered_key key) h i l))

-- A start further on.
pub slid-next :
    (key : ℕ) (b h : List ℕ) (n s f g : ℕ)
    → s + n < length h
    → Slid key b h n s f g
    → (Twin key b h s → ⊥)
    → Slid key b h n (s + 1)
    (print_number (pushed (numbered_key key) (numbered_print f) (get_or h s 0)))
    (print_number (pushed (numbered_key key) (numbered_print g) (get_or h (s + n) 0)))
slid-next key b h n s f g l x alone =
    let e : s + n + 1 ≡ s + 1 + n = omega arith in
    record {
      front = more-front key f s h (omega arith) x.front;
      whole = more-front key g (s + n) h l x.whole ∙ ap (λ (k : ℕ). print_number (fp (numbered_key key) (take k h))) e;
      none = below_more _ _ x.none alone;
    }

-- The fingerprint of the block behind a start.
pub slid-print :
    (key : ℕ) (b h : List ℕ) (n s f g weight : ℕ)
    → s + n ≤ length h
    → weight ≡ power_number (power (numbered_key key) n)
    → Slid key b h n s f g
    → print_number (rest_by (numbered_power weight) (numbered_print g) (numbered_print f)) ≡ block_print key h s n
slid-print key b h n s f g weight l e x =
    rw (x.front, x.whole, e) (ap print_number (fp-block (numbered_key key) h s n l))

-- Where the fingerprints agree, a block is a twin just where it is no occurrence.
pub twin-answer :
    (key : ℕ) (b h : List ℕ) (s : ℕ) (o : Bool)
    → s + length b ≤ length h
    → block_print key h s (length b) ≡ print_number (fp (numbered_key key) b)
    → Decides o (Occurrence b h s)
    → Decides (not o) (Twin key b h s)
twin-answer key b h s true l e d = decides-no (λ t. t.differs (d.only refl).same)
twin-answer key b h s false l e d =
    decides-yes (record {
      inside = l;
      differs = λ q. never (d.wherever (record { inside = l; same = q }));
      agrees = e;
    })

-- Where no start but the last has a twin, a twin stands at the last.
pub last-twin :
    (key : ℕ) (b h : List ℕ) (s : ℕ)
    → length h ≤ s + length b
    → ((k : ℕ) → k < s → Twin key b h k → ⊥)
    → HasTwin key b h
    → Twin key b h s
last-twin key b h s l none (k, t) =
    elim (dec_le s k) [
      | yes a ↦
          let e : k ≡ s = omega (arith, t.inside) in
          rw e at t
      | no a ↦ absurd (none k (lt_of_not-le a) t)
    ]
