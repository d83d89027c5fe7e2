-- `checkpoint_save::put_checkpoint` meets its contract: the head and the fields, one behind another, are the record.
use Prim.Native.Nat.{◌-◌}
use mathlib.Core.Path.{◌∙◌, ap}
use native.Mathlib.Omega.{arith}
use Rattle.fields.specs.Fields.{stamped}
use Rattle.checkpoint_format.specs.Places.{stages_place}
use Rattle.checkpoint_format.proofs.Sizes.{checkpoint-whole, stages-at-most, longest-wide}
use Rattle.checkpoint_save.proofs.Assembled.{stages-taken, checkpoint-put}
use Rattle.checkpoint_save.proofs.put_checkpoint.Goals as goal

pub overflow_cast-checkpoint_size : goal.overflow_cast-checkpoint_size
overflow_cast-checkpoint_size c =
    let a = c.args in
    omega (arith, checkpoint-whole a.format a.k, stages-at-most a.format a.k c.requires.1, longest-wide a.format)

pub returns : goal.returns
returns c =
    let kind = c.kind.ensures in
    let size = c.checkpoint_size in
    let f = c.args.format in
    let l = c.args.buf.now in
    checkpoint-put f c.args.matcher c.args.k (size.result - 4) l c.put_head.new.buf c.put_word.new.buf
    c.put_key.new.buf c.put_print.new.buf c.put_mark.new.buf _ c.requires.0
    (omega (arith, checkpoint-whole f c.args.k)) c.requires.2 (rw kind at c.put_head.ensures)
    c.put_word.ensures c.put_key.ensures c.put_print.ensures c.put_mark.ensures
    (c.put_stages.ensures ∙ ap (stamped c.put_mark.new.buf (stages_place f)) (stages-taken f c.args.matcher.stages c.args.k (omega arith)))
