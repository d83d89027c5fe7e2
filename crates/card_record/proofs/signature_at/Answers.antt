-- `card_record::signature_at` meets its contract.
use Prim.Native.Nat.{ℕ}
use mathlib.Core.Path.{◌∙◌, ap}
use Rattle.fields.specs.Fields.{values_at}
use Rattle.fingerprint.specs.Fingerprint.{key_numbers}
use Rattle.ladder.specs.Prefix.{levels}
use Rattle.lists.specs.Lists.{tabulate}
use Rattle.signature.specs.Signature.{places}
use Rattle.record.specs.Layout.{key_from}
use Rattle.card_record.specs.Layout.{signature_body, signature_widths, signature_place, signature_at}
use Rattle.card_record.proofs.signature_at.Goals as goal

pub returns : goal.returns
unfolding signature_at key_from values_at signature_widths signature_body key_numbers
returns c =
    let s = c.args.buf.now in
    let m = c.word_at-m.ensures in
    let prints =
    c.prints_at-prints.ensures
    ∙ ap (λ (k : ℕ). tabulate (signature_place (values_at s 0 (signature_widths k)) k) places) (c.levels.ensures ∙ ap levels m)
    in
    λ i. record { length = m i; key = c.key_at.ensures i; prints = prints i }
