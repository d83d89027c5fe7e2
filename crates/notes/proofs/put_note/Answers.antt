-- `notes::put_note` meets its contract.
use Rattle.std.proofs.Common.{arith, rules}
use Rattle.notes.proofs.Noting.{note_stored}
use Rattle.notes.proofs.put_note.Goals as goal

pub returns : goal.returns
returns c =
    note_stored c.args.notes.now c.args.note _ c.args.at _ (search rules) (omega arith) c.requires c.copy_from_slice.ensures.after
