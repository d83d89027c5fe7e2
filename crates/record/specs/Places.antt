-- Sizes and places in bytes as the code has them: those of the field lists.
use Rattle.std.specs.Prelude.{ℕ, ◌+◌}
use Rattle.record.specs.Layout.{length_width, kind_width, word_width}

abbrev pub key_size : ℕ
key_size = 4

abbrev pub print_size : ℕ
print_size = 4

abbrev pub m_place : ℕ
m_place = length_width + kind_width

abbrev pub key_place : ℕ
key_place = m_place + word_width

abbrev pub print_place : ℕ
print_place = key_place + key_size
