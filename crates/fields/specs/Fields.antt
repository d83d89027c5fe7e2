-- Fields, each a number in so many bytes, one behind another (document 01, "Records").
use Rattle.std.specs.Prelude.{ℕ, zero, suc, ◌+◌, ◌*◌, ◌/◌, ◌%◌, ◌^◌, ◌<◌, cond, List, [], ◌∷◌, ◌++◌, map, length, get_or, take, drop, leb}

-- A field: how many bytes it has, and the number in them.
pub record Field : Type 0 where
  pub width : ℕ
  pub value : ℕ

abbrev pub widths : List Field → List ℕ
widths fields = map (λ f. f.width) fields

abbrev pub values : List Field → List ℕ
values fields = map (λ f. f.value) fields

-- how many bytes fields of these widths have
unfoldable pub size : List ℕ → ℕ
size [] = 0
size (w ∷ ws) = w + size ws

-- "Little-endian.": a number in so many bytes.
unfoldable pub little_endian : ℕ → ℕ → List ℕ
little_endian zero n = []
little_endian (suc w) n = n % 256 ∷ little_endian w (n / 256)

-- the bytes of fields
unfoldable pub bytes_of : List Field → List ℕ
bytes_of [] = []
bytes_of (f ∷ fields) = little_endian f.width f.value ++ bytes_of fields

-- The number in so many bytes from a place on, the lowest byte first; 0 where fewer stand there.
unfoldable pub number_from : List ℕ → ℕ → ℕ → ℕ
number_from s at zero = 0
number_from s at (suc w) = get_or s at 0 + 256 * number_from s (suc at) w

unfoldable pub number_at : List ℕ → ℕ → ℕ → ℕ
number_at s at w = cond (leb (at + w) (length s)) (number_from s at w) 0

-- The values of fields of these widths from a place on.
unfoldable pub values_at : List ℕ → ℕ → List ℕ → List ℕ
values_at s at [] = []
values_at s at (w ∷ ws) = number_at s at w ∷ values_at s (at + w) ws

-- Each value can be said in the bytes of its field.
abbrev pub EachFits : List Field → Type 0
EachFits [] = Unit {0}
EachFits (f ∷ fields) = (f.value < 256 ^ f.width) × EachFits fields

-- the lists f 0, f 1, .. f (n-1), one behind another
unfoldable pub gathered {ℓ} : {A : Type ℓ} → (ℕ → List A) → ℕ → List A
gathered f zero = []
gathered f (suc n) = gathered f n ++ f n

-- A buffer with these bytes in place of those from a place on.
unfoldable pub pasted : List ℕ → ℕ → List ℕ → List ℕ
pasted s at bytes = take at s ++ bytes ++ drop (at + length bytes) s

-- A buffer with these fields from a place on.
abbrev pub stamped : List ℕ → ℕ → List Field → List ℕ
stamped s at fields = pasted s at (bytes_of fields)
