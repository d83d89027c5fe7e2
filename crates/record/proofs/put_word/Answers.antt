-- `record::put_word` meets its contract.
use Rattle.fields.specs.Calls.{put_each}
use Rattle.record.proofs.put_word.Goals as goal

pub returns : goal.returns
unfolding put_each
returns c = c.put.ensures
