-- `naive_search::weight_of` meets its contract. The invariant: the weight is that of the turns passed.
use mathlib.Core.Path.{◌∙◌, ap}
use Rattle.fingerprint.specs.Fingerprint.{power_number}
use Rattle.fingerprint.proofs.Laws.{power-more}
use Rattle.naive_search.proofs.weight_of.Goals as goal

pub loop-preserved : goal.loop-preserved
loop-preserved c = c.times-weight.ensures ∙ rw c.loop.invariant (ap power_number (power-more _ _))
