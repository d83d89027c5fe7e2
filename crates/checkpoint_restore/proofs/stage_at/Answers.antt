-- `checkpoint_restore::stage_at` meets its contract.
use mathlib.Core.Path.{sym, ◌∙◌}
use Rattle.checkpoint_restore.proofs.Positions.{stage-parts}
use Rattle.checkpoint_restore.proofs.stage_at.Goals as goal

pub returns : goal.returns
returns c =
    let a = c.args in
    let size = c.mark_size-size.ensures in
    let last = rw size at c.mark_at-2.ensures in
    let step = rw size at c.gap_at.ensures in
    (λ i.
    record {
      held = c.word_at.ensures i;
      first = c.mark_at.ensures i;
      last = last i;
      step = step i;
    })
    ∙ sym (stage-parts a.format a.buf.now a.at)
