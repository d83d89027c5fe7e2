-- `record::key_at` meets its contract.
use mathlib.Core.Path.{◌∙◌, ap}
use Rattle.fields.specs.Fields.{values_at}
use Rattle.fingerprint.specs.Fingerprint.{numbered_key, key_numbers, key_of}
use Rattle.record.proofs.key_at.Goals as goal

pub returns : goal.returns
unfolding values_at key_of key_numbers
returns c = c.new.ensures ∙ ap numbered_key c.word_at.ensures
