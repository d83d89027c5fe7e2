-- `driver_values::racks::labels` meets its contract: each place holds the label read.
use Rattle.std.proofs.Common.{rules}
use Rattle.driver_values.specs.Racks.{labels_in}
use Rattle.driver_values.proofs.Filled.{filled}
use Rattle.driver_values.proofs.racks.labels.Goals as goal

pub returns : goal.returns
unfolding labels_in
returns c = filled _ _ _ (λ i y q r. search rules) 0 _ _ c.from_fn.ensures.items
