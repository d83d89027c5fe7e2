-- `card_record::signature_size` meets its contract.
use native.Mathlib.Omega.{arith}
use Rattle.signature.specs.Signature.{no_signature}
use Rattle.card_record.specs.Layout.{signature_length}
use Rattle.card_record.proofs.Sizes.{signature-length}
use Rattle.card_record.proofs.signature_size.Goals as goal

pub returns : goal.returns
unfolding signature_length
returns c = omega (arith, signature-length c.args.k no_signature)
