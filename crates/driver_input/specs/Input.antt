-- The values of a call as bytes (differential/calls.py): numbers of 8 bytes each, little-endian, one behind another.
use Rattle.std.specs.Prelude.{ℕ, ◌*◌, ◌%◌, min, Bool, List, take, drop, ltb}
use Rattle.lists.specs.Lists.{tabulate}
use Rattle.fields.specs.Fields.{number_at}

-- Number i, 0 where it is missing; and what stands from it on.
unfoldable pub number_in : List ℕ → ℕ → ℕ
number_in s i = number_at s (8 * i) 8

unfoldable pub numbers_from : List ℕ → ℕ → List ℕ
numbers_from s i = drop (8 * i) s

-- A number says yes where it is another than 0.
abbrev pub is_set : ℕ → Bool
is_set n = ltb 0 n

-- A buffer is its length and then its bytes; what stands behind it.
unfoldable pub buffer_in : List ℕ → List ℕ
buffer_in s = take (number_in s 0) (numbers_from s 1)

unfoldable pub past_buffer : List ℕ → List ℕ
past_buffer s = drop (number_in s 0) (numbers_from s 1)

-- A list is its length, of which 32 bits count, and then its numbers; what stands behind it.
unfoldable pub past_list : List ℕ → List ℕ
past_list s = numbers_from (numbers_from s 1) (number_in s 0 % 4294967296)

-- A buffer, and a list, that a call may alter, in so much room: a number that is missing is 0.
unfoldable pub lent_buffer : List ℕ → ℕ → List ℕ
lent_buffer s room = take room (buffer_in s)

unfoldable pub lent_list : List ℕ → ℕ → List ℕ
lent_list s room = tabulate (number_in (numbers_from s 1)) (min (number_in s 0 % 4294967296) room)
