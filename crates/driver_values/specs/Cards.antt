-- Keys, fingerprints, cards and half-made cards as numbers, one behind another (differential/calls.py).
use Rattle.std.specs.Prelude.{ℕ, ◌%◌, List}
use Rattle.fingerprint.specs.declared.Key.{Key}
use Rattle.fingerprint.specs.declared.Fingerprint.{Fingerprint}
use Rattle.fingerprint.specs.Fingerprint.{numbered_key, numbered_print}
use Rattle.lists.specs.Lists.{tabulate}
use Rattle.signature.specs.declared.Signature.{Signature}
use Rattle.signature.specs.declared.Builder.{Builder}
use Rattle.signature.specs.Signature.{places}
use Rattle.driver_input.specs.Input.{number_in, numbers_from}

-- Number i in 32 bits.
abbrev pub word_in : List ℕ → ℕ → ℕ
word_in s i = number_in s i % 4294967296

-- Number i as a key, and as a fingerprint.
abbrev pub key_in : List ℕ → ℕ → Key
key_in s i = numbered_key (word_in s i)

abbrev pub print_in : List ℕ → ℕ → Fingerprint
print_in s i = numbered_print (word_in s i)

-- A card: m, r, 21 prints.
unfoldable pub card_in : List ℕ → Signature
card_in s = record { length = word_in s 0; key = key_in s 1; prints = tabulate (print_in (numbers_from s 2)) places }

-- A half-made card: m, r, bytes taken, the running print, 21 prints.
unfoldable pub builder_in : List ℕ → Builder
builder_in s =
    record {
      length = word_in s 0;
      key = key_in s 1;
      taken = word_in s 2;
      print = print_in s 3;
      prints = tabulate (print_in (numbers_from s 4)) places;
    }
