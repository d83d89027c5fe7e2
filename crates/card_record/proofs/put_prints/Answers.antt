-- `card_record::put_prints` meets its contract: the fingerprints passed stand one behind another.
use Prim.Native.Nat.{◌+◌, ◌*◌}
use mathlib.Core.Path.{refl, ◌∙◌}
use native.Mathlib.Omega.{arith}
use Rattle.fields.specs.Fields.{size}
use Rattle.fields.proofs.Gathered.{put-each, stamped-none, stamped-more}
use Rattle.fingerprint.specs.Fingerprint.{print_numbers}
use Rattle.record.specs.Layout.{print_fields_of}
use Rattle.record.specs.Places.{print_size, print_place}
use borrow.Author.Rules.{rules}
use Rattle.card_record.proofs.put_prints.Goals as goal

pub loop-i-init : goal.loop-i-init
loop-i-init c =
    record { long = refl; written = stamped-none c.args.buf.now print_place (print_fields_of c.args.prints.now) }

pub loop-i-preserved : goal.loop-i-preserved
unfolding size print_numbers
loop-i-preserved c =
    let a = c.args in
    let i = c.loop-i.i in
    let at = print_place + print_size * i in
    let f = print_fields_of a.prints.now in
    let before = c.loop-i.invariant in
    record {
      long = search rules;
      written =
          c.put_print.ensures
          ∙ put-each (f i) c.loop-i.buf at (omega (arith, before.long))
          ∙ stamped-more a.buf.now print_place f print_size (λ j. refl) c.loop-i.buf i at (omega arith) (omega (arith, before.long))
          before.written;
    }
