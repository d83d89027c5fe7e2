-- `driver_values::watches::sets` meets its contract: each place holds the set read.
use Rattle.std.proofs.Common.{[], rules}
use Rattle.driver_values.specs.Watches.{set_in}
use Rattle.driver_values.proofs.Filled.{filled}
use Rattle.driver_values.proofs.watches.sets.Goals as goal

pub returns : goal.returns
returns c = filled _ _ _ (λ i y q r. search rules) (set_in []) _ _ c.from_fn.ensures.items
