-- `checkpoint_save::put_gap` meets its contract: one field behind another.
use Prim.Native.Nat.{◌+◌}
use mathlib.Core.Path.{refl, ◌∙◌}
use mathlib.Core.List.{[], ◌∷◌}
use native.Mathlib.Omega.{arith}
use Rattle.record.specs.Layout.{word, print_fields}
use Rattle.fields.specs.Fields.{size}
use Rattle.fingerprint.specs.Fingerprint.{print_numbers}
use Rattle.fields.proofs.Gathered.{put-each, stamped-each}
use Rattle.checkpoint_save.proofs.put_gap.Goals as goal

pub returns : goal.returns
unfolding size print_numbers
returns c =
    let a = c.args in
    c.put_print.ensures
    ∙ rw (c.put_word.ensures, put-each (word a.gap.length ∷ []) a.buf.now a.at (omega arith))
    (stamped-each a.buf.now (word a.gap.length ∷ []) a.at (print_fields a.gap.print) (a.at + 4) refl (omega arith))
