-- `card_record::read_signature` meets its contract: its tests are the definition's, in their order.
use Prim.Native.Nat.{ℕ, ◌+◌}
use mathlib.Core.Path.{◌≡◌, sym, ◌∙◌, ap}
use mathlib.Core.Bool.{true, false}
use native.Mathlib.Omega.{arith}
use borrow.Author.Tests.{ne_eqb, eq-eqb, not-true, not-false}
use Rattle.ladder.specs.Prefix.{levels}
use Rattle.refusal.specs.Number.{refusal_number}
use Rattle.record.specs.Layout.{length_field, pattern_length}
use Rattle.card_record.specs.Layout.{signature_length}
use Rattle.card_record.specs.Calls.{signature_suits}
use Rattle.std.proofs.lemmas.Result.{err_from_is_err_and}
use Rattle.record.proofs.Refused.{refusal-given}
use Rattle.card_record.proofs.Reading.{unread-at, unsuited, read_whole}
use Rattle.card_record.proofs.read_signature.Goals as goal
use Rattle.card_record.proofs.read_signature.Goals.{After-signature_size}

pub returns-in_err-check_head-clause-verdict : goal.returns-in_err-check_head-clause-verdict
returns-in_err-check_head-clause-verdict c =
    let s = c.args.buf.now in
    let given = err_from_is_err_and c.from_residual.result c.from_residual.ensures.1 in
    let refusal = c.in_err-check_head.field-0.0 in
    rw (given.1, given.2) (unread-at s (refusal_number refusal) c.in_err-check_head.ensures (refusal-given refusal))

-- the size that a record with this pattern length has
due : (c : After-signature_size) → c.signature_size.result ≡ signature_length (levels (pattern_length c.args.buf.now)) + 4
due c = c.signature_size.ensures ∙ ap (λ (k : ℕ). signature_length k + 4) (c.levels.ensures ∙ ap levels c.word_at-2.ensures)

pub returns-then-taken-signature_size-clause-verdict : goal.returns-then-taken-signature_size-clause-verdict
returns-then-taken-signature_size-clause-verdict c =
    let s = c.args.buf.now in
    let head = c.in_ok-check_head.ensures in
    let size = due (goal.at.returns-then-taken-signature_size-clause-verdict c).After-signature_size in
    let fails : signature_suits s ≡ false =
    rw (ne_eqb (length_field s) _ (λ e. c.if-taken-signature_size.true (ap (λ (n : ℕ). n + 4) (c.word_at.ensures ∙ e) ∙ sym size)))
    in
    unsuited s head fails

pub returns-then-not-fits-clause-verdict : goal.returns-then-not-fits-clause-verdict
returns-then-not-fits-clause-verdict c =
    let s = c.args.buf.now in
    let head = c.in_ok-check_head.ensures in
    let size = due (goal.at.returns-then-not-fits-clause-verdict c).After-signature_size in
    let same : length_field s ≡ signature_length (levels (pattern_length s)) = omega (arith, c.word_at.ensures) in
    let fails : signature_suits s ≡ false =
    rw (eq-eqb (length_field s) _ same, ← c.signature_at-signature.ensures, ← c.fits.ensures) (not-true _ c.if-not-fits.true-raw)
    in
    unsuited s head fails

pub returns : goal.returns
returns c =
    let s = c.args.buf.now in
    let head = c.in_ok-check_head.ensures in
    let size = due (goal.at.returns c).After-signature_size in
    let card = c.signature_at-signature.ensures in
    let same : length_field s ≡ signature_length (levels (pattern_length s)) = omega (arith, c.word_at.ensures) in
    let passes : signature_suits s ≡ true =
    rw (eq-eqb (length_field s) _ same, ← card, ← c.fits.ensures) (not-false _ c.if-not-fits.false-raw)
    in
    let done =
    read_whole s (c.word_at.result + 4) c.signature_at-signature.result head passes card (ap (λ (n : ℕ). n + 4) c.word_at.ensures)
    in
    record { verdict = done.0; signature = done.1.0; taken = done.1.1 }
