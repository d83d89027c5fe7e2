-- `card_record::write_signature` meets its contract: its tests are the definition's, and the record is written whole.
use Prim.Native.Nat.{ℕ, ◌+◌}
use mathlib.Core.Path.{◌≡◌, refl, sym, ◌∙◌, ap}
use mathlib.Core.Bool.{true}
use native.Mathlib.Omega.{arith}
use borrow.Author.Tests.{not-false}
use Rattle.ladder.specs.Prefix.{levels}
use Rattle.ladder.proofs.Levels.{levels-bound}
use Rattle.signature.proofs.Card.{sound-card}
use Rattle.signature.specs.Signature.{signature_fits}
use Rattle.card_record.specs.Layout.{signature_length, signature_record}
use Rattle.card_record.specs.Calls.{card_judged}
use Rattle.record.proofs.Writing.{put-no-room, put_whole}
use Rattle.card_record.proofs.Sizes.{signature-size, signature-length-is}
use Rattle.card_record.proofs.write_signature.Goals as goal

pub returns-then-buf-size : goal.returns-then-buf-size
returns-then-buf-size c =
    let a = c.args in
    let good : signature_fits a.signature ≡ true = sym c.fits.ensures ∙ not-false _ c.if-not-fits.false-raw in
    let size = c.signature_size-size.ensures ∙ ap (λ (k : ℕ). signature_length k + 4) c.levels-k.ensures in
    let full =
    put-no-room (card_judged a.signature) (signature_record a.signature) a.buf.now (rw good)
    (omega (arith, signature-size a.signature)) refl refl
    in
    record { verdict = full.0; used = tt; buffer = full.1.1 }

pub put_signature-requires : goal.put_signature-requires
put_signature-requires c =
    let a = c.args in
    let good : signature_fits a.signature ≡ true = sym c.fits.ensures ∙ not-false _ c.if-not-fits.false-raw in
    let k = levels a.signature.length in
    let size = c.signature_size-size.ensures ∙ ap (λ (k : ℕ). signature_length k + 4) c.levels-k.ensures in
    omega (arith, signature-length-is k, levels-bound a.signature.length (sound-card a.signature good).short)

pub returns : goal.returns
returns c =
    let a = c.args in
    let good : signature_fits a.signature ≡ true = sym c.fits.ensures ∙ not-false _ c.if-not-fits.false-raw in
    let size = c.signature_size-size.ensures ∙ ap (λ (k : ℕ). signature_length k + 4) c.levels-k.ensures in
    let whole = signature-size a.signature in
    let done =
    put_whole (card_judged a.signature) (signature_record a.signature) a.buf.now c.signature_size-size.result c.put_signature.new.buf (rw good)
    (omega arith) (omega arith) c.put_signature.ensures
    in
    record { verdict = done.0; used = done.1.0; buffer = done.1.1 }
