-- How long a line can be.
use Rattle.std.specs.Prelude.{ℕ, ◌+◌, ◌*◌}
use Rattle.decimal.specs.Decimal.{most_put}

-- An item is a space and a number; a line has at most four numbers, a letter and a line feed.
abbrev pub most_item : ℕ
most_item = 1 + most_put

abbrev pub most_numbers : ℕ
most_numbers = 4

abbrev pub most_line : ℕ
most_line = most_numbers * most_item + 2
