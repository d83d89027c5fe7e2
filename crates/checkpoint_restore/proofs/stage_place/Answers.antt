-- `checkpoint_restore::stage_place` meets its contract.
use mathlib.Core.Path.{sym, ◌∙◌, ap}
use borrow.Author.Tests.{lt-ltb}
use Rattle.checkpoint_restore.specs.Layout.{stage_from}
use Rattle.checkpoint_restore.proofs.Positions.{stage-place}
use Rattle.checkpoint_restore.proofs.stage_place.Goals as goal

pub returns-then-i-k : goal.returns-then-i-k
returns-then-i-k c =
    let a = c.args in
    let place = stage-place a.format a.buf.now a.k a.i c.if-i-k.true in
    rw (lt-ltb _ _ c.if-i-k.true)
    (rw (c.stages_at.ensures, c.stage_size.ensures) at c.stage_at.ensures ∙ ap stage_from (sym place))
