-- Karp-Rabin fingerprints (document 01, "Fingerprints"; the value of a byte: document 02, A.4). The bytes of a block are a list of numbers.
-- What a key, a fingerprint or a power holds is known to this crate alone: others use the words below and the laws of proofs/Laws.antt.
use Rattle.std.specs.Prelude.{ℕ, zero, suc, ◌+◌, ◌-◌, ◌*◌, ◌^◌, ◌%◌, ◌<◌, Bool, ◌&&◌, List, [], ◌∷◌, get_or, ltb, leb, eqb}
use Rattle.fingerprint.specs.declared.Key.{Key}
use Rattle.fingerprint.specs.declared.Power.{Power}
use Rattle.fingerprint.specs.declared.Fingerprint.{Fingerprint}

-- "p = 2147483647."
abbrev pub p : ℕ
p = 2147483647

-- "The key r is from 2 to 2147483646."
unfoldable pub key_fits : Key → Bool
key_fits key = leb 2 key.r && leb key.r 2147483646

unfoldable pub same_key : Key → Key → Bool
same_key a b = eqb a.r b.r

-- "A fingerprint not below p" is a misfit: as a proposition, and as a test.
pub record Below (f : Fingerprint) : Type 0 where
  pub below : f.value < p

unfoldable pub print_fits : Fingerprint → Bool
print_fits f = ltb f.value p

unfoldable pub same : Fingerprint → Fingerprint → Bool
same f g = eqb f.value g.value

-- "The fingerprint of no bytes is 0."
abbrev pub empty : Fingerprint
empty = record { value = 0 }

-- "The office's planning sheets give byte b the value b + 1, so that stroke 0 isn't nothing" (document 02, A.4).
abbrev pub value_of : ℕ → ℕ
value_of b = b + 1

-- "f becomes (f × r + b + 1) mod p": f with one byte b more.
abbrev pub pushed : Key → Fingerprint → ℕ → Fingerprint
pushed key f b = record { value = (f.value * key.r + value_of b) % p }

-- The fingerprint f, taken on over more bytes.
unfoldable pub extended : Key → Fingerprint → List ℕ → Fingerprint
extended key f [] = f
extended key f (b ∷ bytes) = extended key (pushed key f b) bytes

-- The fingerprint of a block.
abbrev pub fp : Key → List ℕ → Fingerprint
fp key bytes = extended key empty bytes

-- The fingerprint of the one byte b, under any key; and whether one is that of a byte: "1 to 256, and any other a misfit".
abbrev pub byte_print : ℕ → Fingerprint
byte_print b = record { value = value_of b % p }

unfoldable pub is_byte_print : Fingerprint → Bool
is_byte_print f = leb 1 f.value && leb f.value 256

-- Two blocks are compared by fingerprint.
abbrev pub agree_under : Key → List ℕ → List ℕ → Bool
agree_under key u v = same (fp key u) (fp key v)

-- r to the n; the product of two such powers, and the square of one.
abbrev pub power : Key → ℕ → Power
power key n = record { value = key.r ^ n % p }

abbrev pub multiplied : Power → Power → Power
multiplied a b = record { value = a.value * b.value % p }

abbrev pub squared : Power → Power
squared a = multiplied a a

-- "For u followed by v: fp(uv) = (fp(u) × r^|v| + fp(v)) mod p": from fp(u), fp(v) and |v|; and the same from r^|v|.
abbrev pub joined : Key → Fingerprint → Fingerprint → ℕ → Fingerprint
joined key u v n = record { value = (u.value * key.r ^ n + v.value) % p }

abbrev pub joined_by : Power → Fingerprint → Fingerprint → Fingerprint
joined_by shift u v = record { value = (u.value * shift.value + v.value) % p }

-- So many joins of the same block v of n bytes, one after another.
unfoldable pub joined_times : Key → ℕ → Fingerprint → Fingerprint → ℕ → Fingerprint
joined_times key zero u v n = u
joined_times key (suc times) u v n = joined key (joined_times key times u v n) v n

-- "So fp(v) comes from fp(uv), fp(u) and |v|": what is left when the front u is cut off; and the same from r^|v|.
abbrev pub rest : Key → Fingerprint → Fingerprint → ℕ → Fingerprint
rest key uv u n = record { value = (uv.value + (p - u.value * key.r ^ n % p)) % p }

abbrev pub rest_by : Power → Fingerprint → Fingerprint → Fingerprint
rest_by shift uv u = record { value = (uv.value + (p - u.value * shift.value % p)) % p }

-- The number that a key, a fingerprint or a power is, and back: any number, so that what comes back may misfit.
abbrev pub key_number : Key → ℕ
key_number key = key.r

abbrev pub numbered_key : ℕ → Key
numbered_key n = record { r = n }

abbrev pub print_number : Fingerprint → ℕ
print_number f = f.value

abbrev pub numbered_print : ℕ → Fingerprint
numbered_print n = record { value = n }

abbrev pub power_number : Power → ℕ
power_number a = a.value

abbrev pub numbered_power : ℕ → Power
numbered_power n = record { value = n }

-- What a record keeps of a key and of a fingerprint, each number in a field of 4 bytes; and what such numbers make.
unfoldable pub key_numbers : Key → List ℕ
key_numbers key = key_number key ∷ []

unfoldable pub key_of : List ℕ → Key
key_of numbers = numbered_key (get_or numbers 0 0)

unfoldable pub print_numbers : Fingerprint → List ℕ
print_numbers f = print_number f ∷ []

unfoldable pub print_of : List ℕ → Fingerprint
print_of numbers = numbered_print (get_or numbers 0 0)

-- What stands where there is none: the key and the power that are 0.
abbrev pub no_key : Key
no_key = numbered_key 0

abbrev pub no_power : Power
no_power = numbered_power 0
