-- `checkpoint_restore::matcher_at` meets its contract.
use Prim.Native.Nat.{ℕ}
use mathlib.Core.Path.{sym, ◌∙◌, ap}
use Rattle.fields.specs.Fields.{values_at}
use Rattle.ladder.specs.Prefix.{levels}
use Rattle.lists.specs.Lists.{tabulate}
use Rattle.stage.specs.Stages.{stage_count}
use Rattle.checkpoint_format.specs.Layout.{checkpoint_widths}
use Rattle.checkpoint_restore.specs.Layout.{mark_from, stage_place, matcher_at}
use Rattle.checkpoint_restore.proofs.Positions.{now-place}
use Rattle.checkpoint_restore.proofs.matcher_at.Goals as goal

pub returns : goal.returns
unfolding matcher_at
returns c =
    let a = c.args in
    let s = a.buf.now in
    let now = c.mark_at.ensures ∙ ap mark_from (sym (now-place a.format s (levels a.signature.length))) in
    let stages =
    c.stages_at-stages.ensures
    ∙ ap (λ (k : ℕ). tabulate (stage_place (values_at s 0 (checkpoint_widths a.format k)) k) stage_count) c.levels.ensures
    in
    λ i. record { signature = a.signature; now = now i; stages = stages i }
