-- What a card that is no misfit says of its record: each value can be said in the bytes of its field.
-- Assumes nothing.
use Prim.Native.Nat.{ℕ, ◌+◌}
use mathlib.Core.Path.{◌≡◌}
use mathlib.Core.Bool.{true}
use native.Mathlib.Omega.{arith}
use lib.ListN.{get_or}
use Rattle.fields.specs.Fields.{EachFits, gathered}
use Rattle.fields.proofs.Laws.{fit_append}
use Rattle.fields.proofs.Gathered.{fit-gathered}
use Rattle.fingerprint.specs.Fingerprint.{empty}
use Rattle.ladder.specs.Prefix.{levels}
use Rattle.ladder.proofs.Levels.{levels-bound}
use Rattle.signature.specs.declared.Signature.{Signature}
use Rattle.signature.specs.Signature.{signature_fits}
use Rattle.signature.proofs.Card.{sound-card}
use Rattle.record.specs.Layout.{record_fields, key_fields, print_fields_of}
use Rattle.card_record.specs.Layout.{signature_body}
use Rattle.record.proofs.Fits.{key_fits_lem, print-fits}
use Rattle.card_record.proofs.Sizes.{signature-length}

pub card-fields : (s : Signature) → signature_fits s ≡ true → EachFits (record_fields (signature_body (levels s.length) s))
unfolding signature_body
card-fields s e =
    let k : ℕ = levels s.length in
    let q = sound-card s e in
    let prints : EachFits (gathered (print_fields_of s.prints) (k + 1)) =
    fit-gathered (print_fields_of s.prints) (k + 1) (λ i l. print-fits (get_or s.prints i empty) (q.tested i (omega arith)))
    in (
      omega (arith, signature-length k s, levels-bound s.length q.short),
      (
        omega arith,
        (
          omega (arith, q.short),
          fit_append (key_fields s.key) (gathered (print_fields_of s.prints) (k + 1)) (key_fits_lem s.key q.key) prints,
        ),
      ),
    )
