-- `record::print_at` meets its contract.
use mathlib.Core.Path.{◌∙◌, ap}
use Rattle.fields.specs.Fields.{values_at}
use Rattle.fingerprint.specs.Fingerprint.{numbered_print, print_numbers, print_of}
use Rattle.record.proofs.print_at.Goals as goal

pub returns : goal.returns
unfolding values_at print_of print_numbers
returns c = c.of_number.ensures ∙ ap numbered_print c.word_at.ensures
