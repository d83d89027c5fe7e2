-- `naive_search::print_of` meets its contract. The invariant: the print is that of the bytes passed.
use mathlib.Core.Path.{◌≡◌}
use lib.ListN.{take}
use Rattle.fingerprint.specs.Fingerprint.{fp, numbered_key, print_number}
use Rattle.naive_search.proofs.print_of.Given as goal

abbrev pub invariant-loop-byte : goal.invariant-loop-byte
invariant-loop-byte l = l.print ≡ print_number (fp (numbered_key l.key) (take l.byte-index l.block))
