-- `checkpoint_restore::stages_at` meets its contract: each place holds what the record has for it.
use borrow.Author.Rules.{rules}
use Rattle.fields.specs.Fields.{values_at}
use Rattle.stage.specs.Stage.{no_stage}
use Rattle.stage.specs.Stages.{stage_count}
use Rattle.record.proofs.Made.{made}
use Rattle.checkpoint_format.specs.Layout.{checkpoint_widths}
use Rattle.checkpoint_restore.specs.Layout.{stage_place}
use Rattle.checkpoint_restore.proofs.stages_at.Goals as goal

pub returns : goal.returns
returns c =
    let a = c.args in
    made _ _ (stage_place (values_at a.buf.now 0 (checkpoint_widths a.format a.k)) a.k) (λ i y q e. search rules) _ stage_count no_stage
    c.from_fn.ensures.items
