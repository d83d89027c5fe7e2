-- The numbers of a key and of a fingerprint can be said in the bytes of their fields.
-- Assumes nothing.
use mathlib.Core.Path.{◌≡◌}
use mathlib.Core.Bool.{true}
use native.Mathlib.Omega.{arith}
use Rattle.fields.specs.Fields.{EachFits}
use Rattle.fingerprint.specs.declared.Key.{Key}
use Rattle.fingerprint.specs.declared.Fingerprint.{Fingerprint}
use Rattle.fingerprint.specs.Fingerprint.{Below, key_fits, key_numbers, print_numbers}
use Rattle.fingerprint.proofs.Laws.{key-numbers-small, print-numbers-small}
use Rattle.record.specs.Layout.{key_fields, print_fields}

pub key_fits_lem : (key : Key) → key_fits key ≡ true → EachFits (key_fields key)
unfolding key_numbers
key_fits_lem key e = (omega (arith, key-numbers-small key e 0), tt)

pub print-fits : (f : Fingerprint) → Below f → EachFits (print_fields f)
unfolding print_numbers
print-fits f l = (omega (arith, print-numbers-small f l 0), tt)
