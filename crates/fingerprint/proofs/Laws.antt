-- The laws of fingerprints that callers use in place of the definitions' text: range, equality, one byte, one byte more, joining, cutting,
-- powers, and what a record keeps.
-- Assumes nothing.
use Prim.Native.Nat.{ℕ, zero, suc, ◌+◌, ◌-◌, ◌*◌, ◌/◌, ◌%◌, ◌^◌, ◌<◌}
use mathlib.Core.Path.{◌≡◌, refl, sym, ◌∙◌, ap}
use mathlib.Core.Bool.{true}
use mathlib.Core.List.{List, [], ◌∷◌, ◌++◌}
use native.Mathlib.Nat.{pow-zero, pow-suc, add-mod-mod, mod-add-div}
use native.Mathlib.Numerals.{add-one}
use native.Mathlib.Omega.{arith}
use lib.ListN.{length, get_or}
use lib.Dec.{leb, eqb}
use Rattle.std.proofs.lemmas.Bool.{and_parts}
use borrow.Author.Tests.{ltb-true, lt-ltb, eqb-true, eq-eqb, le-leb, leb-true}
use Rattle.fingerprint.specs.declared.Key.{Key}
use Rattle.fingerprint.specs.declared.Power.{Power}
use Rattle.fingerprint.specs.declared.Fingerprint.{Fingerprint}
use Rattle.fingerprint.specs.Fingerprint.{
  p,
  key_fits,
  same_key,
  Below,
  print_fits,
  same,
  empty,
  value_of,
  pushed,
  extended,
  fp,
  byte_print,
  is_byte_print,
  agree_under,
  power,
  multiplied,
  squared,
  key_number,
  print_number,
  numbered_power,
  joined,
  joined_by,
  rest,
  rest_by,
  key_numbers,
  key_of,
  print_numbers,
  print_of,
}
use Rattle.fingerprint.proofs.Modular.{same-residue, mod-mul, mod-mul-add, mul-mod-add, mul-mod-right-factor}
use Rattle.fingerprint.proofs.Powers.{power-product}

-- two fingerprints with one number are equal, and so are two powers
pub by_value : (f g : Fingerprint) → f.value ≡ g.value → f ≡ g
by_value f g e = λ i. record { value = e i }

-- Equality, by its test: `==` on fingerprints and on keys compares their numbers, which is `same` and `same_key`.
pub eqb-same : (f g : Fingerprint) → eqb f.value g.value ≡ same f g
unfolding same
eqb-same f g = refl

pub eqb-same_key : (a b : Key) → eqb a.r b.r ≡ same_key a b
unfolding same_key
eqb-same_key a b = refl

pub same-eq : (f g : Fingerprint) → same f g ≡ true → f ≡ g
unfolding same
same-eq f g e = by_value f g (eqb-true f.value g.value e)

pub same_self : (f : Fingerprint) → same f f ≡ true
unfolding same
same_self f = eq-eqb f.value f.value refl

pub eq-same : (f g : Fingerprint) → f ≡ g → same f g ≡ true
eq-same f g e = rw e (same_self g)

pub number_same : (f g : Fingerprint) → print_number f ≡ print_number g → same f g ≡ true
number_same f g e = eq-same f g (by_value f g e)

pub same-key-eq : (a b : Key) → same_key a b ≡ true → a ≡ b
unfolding same_key
same-key-eq a b e = let q : a.r ≡ b.r = eqb-true a.r b.r e in λ i. record { r = q i }

pub same-key-self : (a : Key) → same_key a a ≡ true
unfolding same_key
same-key-self a = eq-eqb a.r a.r refl

-- Range: below p, as a test and as a proposition.
pub fits_below : (f : Fingerprint) → print_fits f ≡ true → Below f
unfolding print_fits
fits_below f e = record { below = ltb-true f.value p e }

pub below-fits : (f : Fingerprint) → Below f → print_fits f ≡ true
unfolding print_fits
below-fits f l = lt-ltb f.value p l.below

pub empty-below : Below empty
empty-below = record { below = omega arith }

pub pushed-below : (key : Key) (f : Fingerprint) (b : ℕ) → Below (pushed key f b)
pushed-below key f b = record { below = omega arith }

pub joined-below : (key : Key) (u v : Fingerprint) (n : ℕ) → Below (joined key u v n)
joined-below key u v n = record { below = omega arith }

pub rest_below : (key : Key) (uv u : Fingerprint) (n : ℕ) → Below (rest key uv u n)
rest_below key uv u n = record { below = omega arith }

pub byte-below : (b : ℕ) → Below (byte_print b)
byte-below b = record { below = omega arith }

extended-below : (key : Key) (f : Fingerprint) (bytes : List ℕ) → Below f → Below (extended key f bytes)
unfolding extended
extended-below key f [] h = h
extended-below key f (b ∷ bytes) h = extended-below key (pushed key f b) bytes (pushed-below key f b)

pub fp-below : (key : Key) (bytes : List ℕ) → Below (fp key bytes)
fp-below key bytes = extended-below key empty bytes empty-below

-- One byte: its fingerprint, which is that of a byte and no other; and what one byte more leaves when the front is cut off.
pub fp-byte : (key : Key) (b : ℕ) → fp key (b ∷ []) ≡ byte_print b
unfolding extended
fp-byte key b = by_value _ _ (ap (λ (x : ℕ). x % p) (omega arith))

pub byte-is : (b : ℕ) → b < 256 → is_byte_print (byte_print b) ≡ true
unfolding is_byte_print
byte-is b l = rw (le-leb 1 (value_of b % p) (omega arith)) (le-leb (value_of b % p) 256 (omega arith))

pub one_byte : (key : Key) (f : Fingerprint) (b : ℕ) → rest key (pushed key f b) f 1 ≡ byte_print b
one_byte key f b = by_value _ _ (rw (pow-suc, pow-zero) (omega arith))

pub extended-append :
    (key : Key) (f : Fingerprint) (u v : List ℕ) → extended key f (u ++ v) ≡ extended key (extended key f u) v
unfolding extended
extended-append key f [] v = refl
extended-append key f (b ∷ u) v = extended-append key (pushed key f b) u v

-- One byte more.
pub fp-push : (key : Key) (bytes : List ℕ) (b : ℕ) → fp key (bytes ++ b ∷ []) ≡ pushed key (fp key bytes) b
unfolding extended
fp-push key bytes b = extended-append key empty bytes (b ∷ [])

-- one byte b and then a block with the shift R and the fingerprint v, behind f: joined in either order
regroup :
    (f r b R v : ℕ) → ((f * r + b) % p * R + v) % p ≡ (f * (R * r) + ((0 * r + b) % p * R + v) % p) % p
regroup f r b R v =
    mod-mul-add p (f * r + b) R v
    ∙ sym
    (add-mod-mod (f * (R * r)) ((0 * r + b) % p * R + v) p
    ∙ same-residue p (f * (R * r) + ((0 * r + b) % p * R + v)) ((f * r + b) * R + v) ((0 * r + b) / p * R) 0
    (omega (arith, ap (λ (x : ℕ). x * R) (mod-add-div (0 * r + b) p))))

-- taking f on over bytes is joining their fingerprint to it
extended-joined :
    (key : Key) (f : Fingerprint) (v : List ℕ) → Below f → extended key f v ≡ joined key f (fp key v) (length v)
unfolding extended
extended-joined key f [] h = by_value _ _ (simp pow-zero (omega arith))
extended-joined key f (b ∷ v) h =
    extended-joined key (pushed key f b) v (pushed-below key f b)
    ∙ by_value _ _
    (regroup f.value key.r (value_of b) (key.r ^ length v) (fp key v).value
    ∙ rw (pow-suc, extended-joined key (pushed key empty b) v (pushed-below key empty b)))

-- Joining: the fingerprint of u followed by v.
pub fp-join : (key : Key) (u v : List ℕ) → fp key (u ++ v) ≡ joined key (fp key u) (fp key v) (length v)
fp-join key u v = extended-append key empty u v ∙ extended-joined key (fp key u) v (fp-below key u)

-- what is left of w + v when w is cut off
cut-back : (w v : ℕ) → v < p → ((w + v) % p + (p - w % p)) % p ≡ v
cut-back w v h = omega arith

-- Cutting: the fingerprint of v, from that of u followed by v and that of u.
pub fp-cut : (key : Key) (u v : List ℕ) → rest key (fp key (u ++ v)) (fp key u) (length v) ≡ fp key v
fp-cut key u v =
    ap (λ (f : Fingerprint). rest key f (fp key u) (length v)) (fp-join key u v)
    ∙ by_value _ _ (cut-back ((fp key u).value * key.r ^ length v) (fp key v).value (fp-below key v).below)

-- what is left of f when w is cut off, behind w
put_back : (w f : ℕ) → f < p → (w + (f + (p - w % p)) % p) % p ≡ f
put_back w f h = omega arith

-- What is left when the front is cut off, joined to the front again.
pub join-rest : (key : Key) (uv u : Fingerprint) (n : ℕ) → Below uv → joined key u (rest key uv u n) n ≡ uv
join-rest key uv u n h = by_value _ _ (put_back (u.value * key.r ^ n) uv.value h.below)

-- Powers: joining and cutting by one, the product of two and the square of one.
pub join_by : (key : Key) (u v : Fingerprint) (n : ℕ) → joined_by (power key n) u v ≡ joined key u v n
join_by key u v n = by_value _ _ (mul-mod-add p u.value (key.r ^ n) v.value)

pub rest-by : (key : Key) (uv u : Fingerprint) (n : ℕ) → rest_by (power key n) uv u ≡ rest key uv u n
rest-by key uv u n =
    by_value _ _ (ap (λ (x : ℕ). (uv.value + (p - x)) % p) (mul-mod-right-factor p u.value (key.r ^ n)))

by-power : (a b : Power) → a.value ≡ b.value → a ≡ b
by-power a b e = λ i. record { value = e i }

pub power-none : (key : Key) → numbered_power 1 ≡ power key 0
power-none key = by-power _ _ (rw pow-zero)

pub power-more : (key : Key) (n : ℕ) → multiplied (power key n) (numbered_power (key_number key)) ≡ power key (n + 1)
power-more key n = by-power _ _ (mod-mul p (key.r ^ n) key.r ∙ rw (add-one, pow-suc))

pub times_power : (key : Key) (m n : ℕ) → multiplied (power key m) (power key n) ≡ power key (m + n)
times_power key m n = by-power _ _ (power-product key.r m n)

pub square-power : (key : Key) (n : ℕ) → squared (power key n) ≡ power key (n + n)
square-power key n = times_power key n n

-- To have one fingerprint is an equivalence of blocks.
module _ (key : Key) where
  pub agree-self : (u : List ℕ) → agree_under key u u ≡ true
  agree-self u = same_self (fp key u)

  pub agree-back : (u v : List ℕ) → agree_under key u v ≡ true → agree_under key v u ≡ true
  agree-back u v e = eq-same _ _ (sym (same-eq (fp key u) (fp key v) e))

  pub agree_on : (u v x : List ℕ) → agree_under key u v ≡ true → agree_under key v x ≡ true → agree_under key u x ≡ true
  agree_on u v x e f = eq-same _ _ (same-eq (fp key u) (fp key v) e ∙ same-eq (fp key v) (fp key x) f)

-- What a record keeps gives the key and the fingerprint back.
pub key_back : (key : Key) → key_of (key_numbers key) ≡ key
unfolding key_of key_numbers
key_back key = refl

pub print-back : (f : Fingerprint) → print_of (print_numbers f) ≡ f
unfolding print_of print_numbers
print-back f = refl

-- How many numbers each puts into a record, and that each fits a field of 4 bytes.
pub key-numbers-length : (key : Key) → length (key_numbers key) ≡ 1
unfolding key_numbers
key-numbers-length key = refl

pub print-numbers-length : (f : Fingerprint) → length (print_numbers f) ≡ 1
unfolding print_numbers
print-numbers-length f = refl

pub key-numbers-small : (key : Key) → key_fits key ≡ true → (i : ℕ) → get_or (key_numbers key) i 0 < 4294967296
unfolding key_numbers key_fits
key-numbers-small key e zero = omega (arith, leb-true key.r 2147483646 (and_parts (leb 2 key.r) _ e).1)
key-numbers-small key e (suc i) = omega arith

pub print-numbers-small : (f : Fingerprint) → Below f → (i : ℕ) → get_or (print_numbers f) i 0 < 4294967296
unfolding print_numbers
print-numbers-small f l zero = omega (arith, l.below)
print-numbers-small f l (suc i) = omega arith
