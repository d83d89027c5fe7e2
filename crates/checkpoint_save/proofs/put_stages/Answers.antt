-- `checkpoint_save::put_stages` meets its contract: the stages passed stand one behind another.
use Prim.Native.Nat.{◌+◌, ◌*◌}
use mathlib.Core.Path.{refl, ◌∙◌}
use native.Mathlib.Omega.{arith}
use lib.ListN.{length}
use Rattle.fields.proofs.Gathered.{stamped-none, stamped-more}
use Rattle.stage.specs.Stages.{stage_at}
use Rattle.checkpoint_format.specs.Layout.{stage_fields_of}
use Rattle.checkpoint_format.specs.Places.{stage_size, stages_place}
use Rattle.checkpoint_format.proofs.Sizes.{stage-size, stage-within}
use borrow.Author.Rules.{rules}
use Rattle.checkpoint_save.proofs.put_stages.Goals as goal

pub loop-i-init : goal.loop-i-init
loop-i-init c =
    let a = c.args in
    record { long = refl; written = stamped-none a.buf.now (stages_place a.format) (stage_fields_of a.format a.stages.now) }

pub loop-i-preserved : goal.loop-i-preserved
loop-i-preserved c =
    let a = c.args in
    let f = a.format in
    let i = c.loop-i.i in
    let at = stages_place f + stage_size f * i in
    let stages = stage_fields_of f a.stages.now in
    let before = c.loop-i.invariant in
    let within = stage-within f i (length a.stages.now) (length a.buf.now) c.loop-i-test.true c.requires in
    record {
      long = search rules;
      written =
          rw (c.stages_at-from.ensures, c.stage_size-size.ensures) at c.put_stage.ensures
          ∙ stamped-more a.buf.now (stages_place f) stages (stage_size f) (λ j. stage-size f (stage_at a.stages.now j)) c.loop-i.buf
          i at (omega arith) (omega (arith, before.long)) before.written;
    }
