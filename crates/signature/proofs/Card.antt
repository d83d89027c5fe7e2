-- What a card that is no misfit says of itself; and the card of a pattern: its prints are those of the tested beginnings, and it is none.
-- Assumes nothing.
use Prim.Native.Nat.{ℕ, ◌≤◌, ◌<◌}
use mathlib.Core.Path.{◌≡◌, ◌∙◌}
use mathlib.Core.Bool.{true, cond}
use mathlib.Core.List.{List, [], ◌∷◌}
use native.Mathlib.Omega.{arith}
use lib.Dec.{leb}
use lib.ListN.{length, get_or, take}
use borrow.Author.Tests.{leb-true, le-leb, lt-leb, ne_eqb}
use Rattle.fingerprint.specs.declared.Key.{Key}
use Rattle.fingerprint.specs.Fingerprint.{key_fits, print_fits, same, Below, empty, is_byte_print, fp}
use Rattle.fingerprint.proofs.Laws.{same-eq, same_self, fits_below, below-fits, fp-below, fp-byte, byte-is}
use Rattle.ladder.specs.Prefix.{levels, prefix}
use Rattle.ladder.proofs.Levels.{levels-bound, first-length, length-within}
use Rattle.lists.proofs.Laws.{and_left, and_right, every-at, every-intro, get_d_tabulate}
use Rattle.signature.specs.declared.Signature.{Signature}
use Rattle.signature.specs.Signature.{max_length, places, reached, place_fits, first_fits, prints_fit, signature_fits, signature_of}
use Rattle.lists.specs.Lists.{Bytes}
use Rattle.lists.proofs.Cases.{by-test, each}

-- What a card that is no misfit says of itself.
pub record SoundCard (s : Signature) : Type 0 where
  pub long : 1 ≤ s.length
  pub short : s.length ≤ max_length
  pub key : key_fits s.key ≡ true
  pub first : is_byte_print (get_or s.prints 0 empty) ≡ true
  pub tested : (i : ℕ) → i ≤ levels s.length → Below (get_or s.prints i empty)
  pub past : (i : ℕ) → i < places → levels s.length < i → get_or s.prints i empty ≡ empty

pub sound-card : (s : Signature) → signature_fits s ≡ true → SoundCard s
unfolding signature_fits prints_fit
sound-card s e =
    let m : ℕ = s.length in
    let q = each (leb 1 m) (leb m max_length ∷ key_fits s.key ∷ prints_fit m m s.prints ∷ []) e in
    let long : 1 ≤ m = leb-true 1 m q.0 in
    let short : m ≤ max_length = leb-true m max_length q.1.0 in
    let place : (i : ℕ) → i < places → place_fits m m s.prints i ≡ true =
    every-at _ places (and_right (first_fits m (get_or s.prints 0 empty)) _ q.1.1.1.0)
    in
    record {
      long = long;
      short = short;
      key = q.1.1.0;
      first = rw (ne_eqb m 0 (λ e. omega arith)) at (and_left (first_fits m (get_or s.prints 0 empty)) _ q.1.1.1.0);
      tested =
          λ i l.
          fits_below _
          (rw (le-leb i (levels m) l, le-leb _ _ (length-within m i)) at (place i (omega (arith, levels-bound m short))));
      past = λ i l b. same-eq _ _ (rw (lt-leb i (levels m) b) at (place i l));
    }

pub card-prints :
    (key : Key) (p : List ℕ)
    → length p ≤ max_length
    → (i : ℕ)
    → i ≤ levels (length p)
    → get_or (signature_of key p).prints i empty ≡ fp key (prefix p i)
unfolding signature_of
card-prints key p short i l =
    get_d_tabulate _ places i empty (omega (arith, levels-bound (length p) short)) ∙ rw (le-leb i (levels (length p)) l)

module _ (key : Key) (p : List ℕ) (long : 1 ≤ length p) (short : length p ≤ max_length) where
  first-print : (q : List ℕ) → 1 ≤ length q → Bytes q → is_byte_print (fp key (take 1 q)) ≡ true
  first-print [] l b = absurd (omega arith)
  first-print (x ∷ q) l b = rw (fp-byte key x) (byte-is x (b 0 (omega arith)))

  place-fits :
      (i : ℕ)
      → i < places
      → cond (reached (length p) (length p) i) (print_fits (get_or (signature_of key p).prints i empty))
      (same (get_or (signature_of key p).prints i empty) empty)
      ≡ true
  unfolding signature_of
  place-fits i l =
      rw (
        get_d_tabulate (λ i. cond (leb i (levels (length p))) (fp key (prefix p i)) empty) places i empty l,
        le-leb _ _ (length-within (length p) i),
      )
      (by-test (leb i (levels (length p))) (λ e. rw e (below-fits _ (fp-below key (prefix p i)))) (λ e. rw e (same_self empty)))

  pub card-fits : key_fits key ≡ true → Bytes p → signature_fits (signature_of key p) ≡ true
  unfolding signature_fits prints_fit signature_of
  card-fits k b =
      let first : is_byte_print (fp key (prefix p 0)) ≡ true = rw (first-length (length p) long) (first-print p long b) in
      rw (
        le-leb 1 (length p) long,
        le-leb (length p) max_length short,
        k,
        card-prints key p short 0 (omega arith),
        ne_eqb (length p) 0 (λ e. omega arith),
        first,
        every-intro _ places place-fits,
      )
