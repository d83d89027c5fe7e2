-- `checkpoint_save::save_behind` meets its contract: what a refused call leaves is what `save` leaves of the part that is lent.
use mathlib.Core.Path.{refl}
use Rattle.checkpoint_save.proofs.Behind.{saved-behind}
use Rattle.checkpoint_save.proofs.save_behind.Goals as goal

pub returns-in_err-record-clause-buffer : goal.returns-in_err-record-clause-buffer
returns-in_err-record-clause-buffer c =
    let a = c.args in
    (saved-behind a.buf.now a.used c.min-from.result c.min-from.ensures a.format a.matcher _ _ c.save.new.buf refl refl c.save.ensures.buffer).1.1
