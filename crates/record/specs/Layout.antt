-- What records are made of: fields in a list, written as their bytes, and read back from the fields' values (document 01, "Records").
use Rattle.std.specs.Prelude.{ℕ, ◌+◌, ◌*◌, List, ◌∷◌, map, length, get_or, take, drop}
use Rattle.fields.specs.Fields.{Field, widths, size, number_at}
use Rattle.fingerprint.specs.declared.Key.{Key}
use Rattle.fingerprint.specs.declared.Fingerprint.{Fingerprint}
use Rattle.fingerprint.specs.Fingerprint.{empty, key_numbers, print_numbers, key_of, print_of, no_key}

-- "Length (4 bytes) of what follows it, kind (2 bytes), then fields of 4 bytes."
abbrev pub length_width : ℕ
length_width = 4

abbrev pub kind_width : ℕ
kind_width = 2

abbrev pub word_width : ℕ
word_width = 4

abbrev pub kind_field : ℕ → Field
kind_field kind = record { width = kind_width; value = kind }

abbrev pub word : ℕ → Field
word n = record { width = word_width; value = n }

abbrev pub words : List ℕ → List Field
words numbers = map word numbers

-- A record, from what follows its length field.
abbrev pub record_fields : List Field → List Field
record_fields behind = record { width = length_width; value = size (widths behind) } ∷ behind

-- The fields of a key and of a fingerprint.
abbrev pub key_fields : Key → List Field
key_fields key = words (key_numbers key)

abbrev pub print_fields : Fingerprint → List Field
print_fields f = words (print_numbers f)

-- the fields of a card's print i
abbrev pub print_fields_of : List Fingerprint → ℕ → List Field
print_fields_of prints i = print_fields (get_or prints i empty)

-- What stands at the front of every record: the length field, the kind and m.
abbrev pub length_field : List ℕ → ℕ
length_field s = number_at s 0 length_width

abbrev pub kind_of : List ℕ → ℕ
kind_of s = number_at s length_width kind_width

abbrev pub pattern_length : List ℕ → ℕ
pattern_length s = number_at s (length_width + kind_width) word_width

-- How many fields a key and a fingerprint have, and which fields of a record are which: length and kind first, then m, the key and
-- fingerprints.
abbrev pub key_count : ℕ
key_count = length (key_fields no_key)

abbrev pub print_count : ℕ
print_count = length (print_fields empty)

abbrev pub m_position : ℕ
m_position = 2

abbrev pub key_position : ℕ
key_position = m_position + 1

abbrev pub print_position : ℕ
print_position = key_position + key_count

-- n values, from field number i on
abbrev pub part : ℕ → ℕ → List ℕ → List ℕ
part i n values = take n (drop i values)

-- The key and fingerprint i that the values of a record's fields make.
unfoldable pub key_from : List ℕ → Key
key_from values = key_of (part key_position key_count values)

unfoldable pub print_from : List ℕ → ℕ → Fingerprint
print_from values i = print_of (part (print_position + i * print_count) print_count values)
