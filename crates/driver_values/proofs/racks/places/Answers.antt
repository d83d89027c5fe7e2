-- `driver_values::racks::places` meets its contract: each place holds the place read.
use Rattle.std.proofs.Common.{[], rules}
use Rattle.driver_values.specs.Racks.{place_in, places_in}
use Rattle.driver_values.proofs.Filled.{filled}
use Rattle.driver_values.proofs.racks.places.Goals as goal

pub returns : goal.returns
unfolding places_in
returns c = filled _ _ _ (λ i y q r. search rules) (place_in []) _ _ c.from_fn.ensures.items
