-- The calls that write and read one field: what they leave and hand back on all inputs.
use Rattle.std.specs.Prelude.{ℕ, ◌+◌, cond, List, [], ◌∷◌, length, leb, Option, Some, None}
use Rattle.fields.specs.declared.Width.{Width}
use Rattle.fields.specs.declared.Width.TheVariants.{Half, Word, Double}
use Rattle.fields.specs.Fields.{Field, little_endian, number_from, pasted}

-- "Length (4 bytes) of what follows it, kind (2 bytes), then fields of 4 bytes"; "t, first and last in 8 bytes" (document 02, A.5).
abbrev pub width_of : Width → ℕ
width_of Half = 2
width_of Word = 4
width_of Double = 8

-- A field is written: the low bytes of the value, if there is room for them; else the buffer stays as it was.
unfoldable pub put_at : List ℕ → ℕ → ℕ → ℕ → List ℕ
put_at s at w n = cond (leb (at + w) (length s)) (pasted s at (little_endian w n)) s

-- Fields are written one behind another from a place on, each if there is room for it.
unfoldable pub put_each : List ℕ → ℕ → List Field → List ℕ
put_each s at [] = s
put_each s at (f ∷ fields) = put_each (put_at s at f.width f.value) (at + f.width) fields

-- A field is read: the number, if its bytes are there.
unfoldable pub field_at : List ℕ → ℕ → ℕ → Option ℕ
field_at s at w = cond (leb (at + w) (length s)) (Some (number_from s at w)) None

-- The number of what was found, 0 where it is missing.
abbrev pub number_of : Option ℕ → ℕ
number_of (Some n) = n
number_of None = 0
