-- `driver_values::watches::stages` meets its contract: each place holds the stage read.
use Rattle.std.proofs.Common.{[], rules}
use Rattle.driver_values.specs.Watches.{stage_in, stages_in}
use Rattle.driver_values.proofs.Filled.{filled}
use Rattle.driver_values.proofs.watches.stages.Goals as goal

pub returns : goal.returns
unfolding stages_in
returns c = filled _ _ _ (λ i y q r. search rules) (stage_in []) _ _ c.from_fn.ensures.items
