-- `checkpoint_restore::gap_at` meets its contract.
use Rattle.fields.specs.Fields.{values_at}
use Rattle.fingerprint.specs.Fingerprint.{print_numbers}
use Rattle.checkpoint_restore.specs.Layout.{gap_from}
use Rattle.checkpoint_restore.proofs.gap_at.Goals as goal

pub returns : goal.returns
unfolding values_at gap_from print_numbers
returns c = λ i. record { length = c.word_at.ensures i; print = c.print_at.ensures i }
