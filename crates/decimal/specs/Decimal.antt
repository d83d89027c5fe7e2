-- Decimal numbers: the digits of a number, the number that digits make, and what a lent buffer holds once digits are put into it.
use Rattle.std.specs.Prelude.{ℕ, zero, suc, ◌+◌, ◌-◌, ◌*◌, ◌/◌, ◌%◌, ◌^◌, Option, None, Some, Bool, true, false, cond, ◌&&◌, List, [], ◌∷◌, ◌++◌, length, take, drop, leb, ltb}

-- A digit's character: 48 is `0`.
abbrev pub digit : ℕ → ℕ
digit d = 48 + d

-- The digits of n, as long as there is fuel: the last digit stands behind those of n / 10.
unfoldable pub digits : ℕ → ℕ → List ℕ
digits zero n = []
digits (suc fuel) n = elim (ltb n 10) [ true ↦ digit n ∷ [] | false ↦ digits fuel (n / 10) ++ digit (n % 10) ∷ [] ]

-- "Printed numbers are decimal without leading zeros": n has at most n + 1 digits.
unfoldable pub decimal : ℕ → List ℕ
decimal n = digits (suc n) n

-- Whether a character is a digit: 48 is `0`, 57 is `9`.
abbrev pub is_digit : ℕ → Bool
is_digit c = leb 48 c && leb c 57

-- The number that the digits of a text make behind those read so far; none where something else is among them.
unfoldable pub parsed_from : ℕ → List ℕ → Option ℕ
parsed_from value [] = Some value
parsed_from value (c ∷ text) = cond (is_digit c) (parsed_from (10 * value + (c - 48)) text) None

-- The number that a text says which has one digit at least and so many at most.
unfoldable pub parsed_within : ℕ → List ℕ → Option ℕ
parsed_within most text = cond (leb 1 (length text) && leb (length text) most) (parsed_from 0 text) None

-- The most digits that are read.
abbrev pub most_read : ℕ
most_read = 10

abbrev pub parsed : List ℕ → Option ℕ
parsed text = parsed_within most_read text

-- A number that is put fits 64 bits, so it has at most 20 digits.
abbrev pub put_limit : ℕ
put_limit = 2 ^ 64

abbrev pub most_put : ℕ
most_put = 20

-- Whether a buffer has room for a number's digits from a place on.
abbrev pub room_for : List ℕ → ℕ → ℕ → Bool
room_for buf at n = leb (at + length (decimal n)) (length buf)

-- The place behind the digits; where there is no room for them, the place itself.
unfoldable pub place_behind : List ℕ → ℕ → ℕ → ℕ
place_behind buf at n = cond (room_for buf at n) (at + length (decimal n)) at

-- The buffer with the digits at their place, all else as it was; where there is no room for them, as it was.
unfoldable pub buffer_with : List ℕ → ℕ → ℕ → List ℕ
buffer_with buf at n = cond (room_for buf at n) (take at buf ++ decimal n ++ drop (at + length (decimal n)) buf) buf
