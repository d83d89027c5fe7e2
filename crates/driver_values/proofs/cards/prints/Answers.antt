-- `driver_values::cards::prints` meets its contract: each place holds the print read.
use Rattle.std.proofs.Common.{rules}
use Rattle.fingerprint.specs.Fingerprint.{empty}
use Rattle.driver_values.proofs.Filled.{filled}
use Rattle.driver_values.proofs.cards.prints.Goals as goal

pub returns : goal.returns
returns c = filled _ _ _ (λ i y q r. search rules) empty _ _ c.from_fn.ensures.items
