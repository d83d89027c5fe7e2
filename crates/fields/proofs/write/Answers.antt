-- `fields::write` meets its contract: behind the bytes written, those of the rest are still to come.
use mathlib.Core.Path.{◌≡◌, sym, ◌∙◌}
use Prim.Native.Nat.{◌-◌}
use native.Mathlib.Omega.{arith}
use lib.ListN.{length, length-set}
use Rattle.fields.specs.Fields.{little_endian}
use Rattle.fields.proofs.Numbers.{length-number}
use Rattle.fields.proofs.Pasted.{pasted-none, pasted-whole, number_put}
use Rattle.fields.proofs.write.Goals as goal

pub loop-byte-preserved : goal.loop-byte-preserved
loop-byte-preserved c =
    let l = c.loop-byte in
    let before = l.invariant in
    record {
      long = length-set l.field l.byte-index _ ∙ before.long;
      rest = number_put l.field l.byte-index _ l.rest (omega (arith, before.long)) (omega arith) ∙ before.rest;
    }

pub returns : goal.returns
unfolding little_endian
returns c =
    let l = c.loop-byte in
    let s = c.args.field.now in
    let n = length s in
    let none : n - l.byte-index ≡ 0 = omega (arith, l.invariant.long) in
    sym (pasted-none l.field l.byte-index)
    ∙ rw none at l.invariant.rest
    ∙ pasted-whole s (little_endian n c.args.value) (length-number n c.args.value)
