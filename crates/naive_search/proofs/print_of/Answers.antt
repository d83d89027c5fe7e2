-- `naive_search::print_of` meets its contract. The invariant: the print is that of the bytes passed.
use mathlib.Core.Path.{refl, ◌∙◌}
use native.Mathlib.Omega.{arith}
use Rattle.fingerprint.specs.Fingerprint.{extended}
use Rattle.naive_search.proofs.Twins.{more-front}
use Rattle.naive_search.proofs.print_of.Goals as goal

pub loop-byte-init : goal.loop-byte-init
unfolding extended
loop-byte-init c = refl

pub loop-byte-preserved : goal.loop-byte-preserved
loop-byte-preserved c = c.more-print.ensures ∙ more-front _ _ _ _ (omega arith) c.loop-byte.invariant
