-- `card_record::prints_at` meets its contract: each place holds what the record has for it.
use Rattle.fields.specs.Fields.{values_at}
use Rattle.fingerprint.specs.Fingerprint.{empty}
use Rattle.signature.specs.Signature.{places}
use Rattle.record.proofs.Made.{made}
use Rattle.card_record.specs.Layout.{signature_widths, signature_place}
use borrow.Author.Rules.{rules}
use Rattle.card_record.proofs.prints_at.Goals as goal

pub returns : goal.returns
returns c =
    let a = c.args in
    made _ _ (signature_place (values_at a.buf.now 0 (signature_widths a.k)) a.k) (λ i y q e. search rules) _ places empty c.from_fn.ensures.items
