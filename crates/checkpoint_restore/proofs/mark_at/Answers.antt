-- `checkpoint_restore::mark_at` meets its contract.
use Prim.Native.Nat.{ℕ, ◌+◌}
use mathlib.Core.Path.{◌∙◌, ap}
use Rattle.fields.specs.Fields.{widths, number_at, values_at}
use Rattle.fingerprint.specs.Fingerprint.{empty, print_numbers, print_of}
use Rattle.record.specs.Layout.{print_fields}
use Rattle.checkpoint_restore.specs.Layout.{mark_from}
use Rattle.checkpoint_restore.proofs.mark_at.Goals as goal

pub returns : goal.returns
unfolding values_at mark_from print_numbers
returns c =
    let a = c.args in
    let s = a.buf.now in
    let at = c.number_at.ensures.answer ∙ ap (number_at s a.at) c.width-width.ensures in
    let print =
    c.print_at.ensures
    ∙ ap (λ (n : ℕ). print_of (values_at s (a.at + n) (widths (print_fields empty))))
    (c.bytes.ensures ∙ c.width-width.ensures)
    in
    λ i. record { at = at i; print = print i }
