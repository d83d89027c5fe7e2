-- `argument::number_at` meets its contract: a text of ten digits at most says a number below 10^10.
use Rattle.decimal.proofs.Reading.{parsed-below}
use Rattle.argument.proofs.number_at.Goals as goal

pub returns : goal.returns
returns g c = rw c.parse.ensures (parsed-below _)
