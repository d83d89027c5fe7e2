-- `naive_search::weight_of` meets its contract. The invariant: the weight is that of the turns passed.
use mathlib.Core.Path.{◌≡◌}
use Rattle.fingerprint.specs.Fingerprint.{power, numbered_key, power_number}
use Rattle.naive_search.proofs.weight_of.Given as goal

abbrev pub invariant-loop : goal.invariant-loop
invariant-loop l = l.weight ≡ power_number (power (numbered_key l.key) l.counter)
