-- `card_record::put_signature` meets its contract: the head and the fields, one behind another, are the record.
use Prim.Native.Nat.{◌+◌, ◌-◌}
use native.Mathlib.Omega.{arith}
use mathlib.Core.Path.{◌∙◌, ap}
use Rattle.fields.specs.Fields.{stamped}
use Rattle.record.specs.Places.{print_place}
use Rattle.card_record.proofs.Assembled.{prints-taken, signature-put}
use Rattle.card_record.proofs.Sizes.{signature-length-is}
use Rattle.card_record.proofs.put_signature.Goals as goal

pub overflow_cast-signature_size : goal.overflow_cast-signature_size
overflow_cast-signature_size c = let a = c.args in omega (arith, signature-length-is a.k)

pub returns : goal.returns
returns c =
    let size = c.signature_size in
    let l = c.args.buf.now in
    signature-put c.args.signature c.args.k (size.result - 4) l c.put_head.new.buf c.put_word.new.buf
    c.put_key.new.buf _ c.requires.0 (omega (arith, signature-length-is c.args.k)) c.requires.2
    c.put_head.ensures c.put_word.ensures c.put_key.ensures
    (c.put_prints.ensures ∙ ap (stamped c.put_key.new.buf print_place) (prints-taken c.args.signature.prints (c.args.k + 1) (omega arith)))
