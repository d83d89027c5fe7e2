-- `checkpoint_restore::restore` meets its contract: its tests are the definition's, in their order.
use Prim.Native.Nat.{ℕ, ◌+◌}
use mathlib.Core.Path.{◌≡◌, sym, ◌∙◌, ap}
use mathlib.Core.Bool.{true, false}
use mathlib.Core.List.{List}
use native.Mathlib.Omega.{arith}
use borrow.Author.Tests.{ne_eqb, eq-eqb}
use Rattle.ladder.specs.Prefix.{levels}
use Rattle.refusal.specs.Number.{refusal_number}
use Rattle.ladder.proofs.Levels.{levels-bound}
use Rattle.signature.proofs.Card.{sound-card}
use Rattle.signature.specs.declared.Signature.{Signature}
use Rattle.signature.specs.Signature.{signature_fits}
use Rattle.std.proofs.lemmas.Result.{err_from_is_err_and}
use Rattle.checkpoint_format.specs.declared.Format.{Format}
use Rattle.record.specs.Layout.{length_field}
use Rattle.record.specs.Calls.{head_refusal}
use Rattle.record.proofs.Refused.{refusal-given}
use Rattle.checkpoint_format.specs.Layout.{checkpoint_kind, checkpoint_length}
use Rattle.checkpoint_format.specs.Calls.{checkpoint_least}
use Rattle.checkpoint_restore.specs.Layout.{same_pattern}
use Rattle.checkpoint_restore.specs.Calls.{format_of, checkpoint_suits}
use Rattle.checkpoint_restore.proofs.Restoring.{head-asked, card-misfits, unrestored-at, other-pattern, not-suited, restore-whole}
use Rattle.checkpoint_restore.proofs.restore.Goals as goal
use Rattle.checkpoint_restore.proofs.restore.Goals.{Else-not-fits, In_ok-check_head, Else-not-same_pattern, Else-taken-checkpoint_size}

-- the size that a checkpoint's record under the card has
size-due :
    (s : List ℕ) (card : Signature) {f : Format} {k size : ℕ}
    → f ≡ format_of s
    → k ≡ levels card.length
    → size ≡ checkpoint_length f k + 4
    → size ≡ checkpoint_length (format_of s) (levels card.length) + 4
size-due s card ef ek e = rw (← ef, ← ek) e

-- what each test that passed says
card-fits : (c : Else-not-fits) → signature_fits c.args.signature ≡ true
card-fits c = sym c.fits.ensures ∙ c.if-not-fits.false

head : (c : In_ok-check_head)
    → 0 ≡ head_refusal (checkpoint_kind (format_of c.args.buf.now)) (checkpoint_least (format_of c.args.buf.now)) c.args.buf.now
head c = head-asked c.args.buf.now c.format_at-format.ensures c.kind.ensures c.least.ensures c.in_ok-check_head.ensures

same : (c : Else-not-same_pattern) → same_pattern (format_of c.args.buf.now) c.args.signature c.args.buf.now ≡ true
same c = sym (c.same_pattern.ensures (format_of c.args.buf.now)) ∙ c.if-not-same_pattern.false

suited : (c : Else-taken-checkpoint_size)
    → length_field c.args.buf.now ≡ checkpoint_length (format_of c.args.buf.now) (levels c.args.signature.length)
suited c =
    let due = size-due c.args.buf.now c.args.signature c.format_at-format.ensures c.levels.ensures c.checkpoint_size.ensures in
    omega (arith, due, c.word_at.ensures, c.if-taken-checkpoint_size.false)

pub returns-then-not-fits-clause-verdict : goal.returns-then-not-fits-clause-verdict
returns-then-not-fits-clause-verdict c =
    card-misfits c.args.signature c.args.buf.now (sym c.fits.ensures ∙ c.if-not-fits.true)

pub returns-in_err-check_head-clause-verdict : goal.returns-in_err-check_head-clause-verdict
returns-in_err-check_head-clause-verdict c =
    let s = c.args.buf.now in
    let at = goal.at.returns-in_err-check_head-clause-verdict c in
    let refusal = c.in_err-check_head.field-0.0 in
    let asked = head-asked s c.format_at-format.ensures c.kind.ensures c.least.ensures c.in_err-check_head.ensures in
    let given = err_from_is_err_and c.from_residual.result c.from_residual.ensures.1 in
    rw (given.1, given.2)
    (unrestored-at c.args.signature s (card-fits at.Else-not-fits) (refusal_number refusal) asked (refusal-given refusal))

pub same_pattern-requires : goal.same_pattern-requires
same_pattern-requires c =
    let card = c.args.signature in
    levels-bound card.length (sound-card card (card-fits (goal.at.same_pattern-requires c).Else-not-fits)).short

pub returns-then-not-same_pattern-clause-verdict : goal.returns-then-not-same_pattern-clause-verdict
returns-then-not-same_pattern-clause-verdict c =
    let s = c.args.buf.now in
    let at = goal.at.returns-then-not-same_pattern-clause-verdict c in
    other-pattern c.args.signature s (card-fits at.Else-not-fits) (head at.In_ok-check_head)
    (sym (c.same_pattern.ensures (format_of s)) ∙ c.if-not-same_pattern.true)

pub returns-then-taken-checkpoint_size-clause-verdict : goal.returns-then-taken-checkpoint_size-clause-verdict
returns-then-taken-checkpoint_size-clause-verdict c =
    let card = c.args.signature in
    let s = c.args.buf.now in
    let at = goal.at.returns-then-taken-checkpoint_size-clause-verdict c in
    let due = size-due s card c.format_at-format.ensures c.levels.ensures c.checkpoint_size.ensures in
    let fails : checkpoint_suits card s ≡ false =
    rw (ne_eqb (length_field s) _ (λ q. c.if-taken-checkpoint_size.true (ap (λ (n : ℕ). n + 4) (c.word_at.ensures ∙ q) ∙ sym due)))
    in
    not-suited card s (card-fits at.Else-not-fits) (head at.In_ok-check_head) (same at.Else-not-same_pattern) fails

pub returns-then-not-fits-2-clause-verdict : goal.returns-then-not-fits-2-clause-verdict
returns-then-not-fits-2-clause-verdict c =
    let card = c.args.signature in
    let s = c.args.buf.now in
    let at = goal.at.returns-then-not-fits-2-clause-verdict c in
    let made = rw c.format_at-format.ensures at c.matcher_at-matcher.ensures in
    let fails : checkpoint_suits card s ≡ false =
    rw (eq-eqb (length_field s) _ (suited at.Else-taken-checkpoint_size), ← made, ← c.fits-2.ensures) c.if-not-fits-2.true
    in
    not-suited card s (card-fits at.Else-not-fits) (head at.In_ok-check_head) (same at.Else-not-same_pattern) fails

pub returns : goal.returns
returns c =
    let card = c.args.signature in
    let s = c.args.buf.now in
    let at = goal.at.returns c in
    let made = rw c.format_at-format.ensures at c.matcher_at-matcher.ensures in
    let passes : checkpoint_suits card s ≡ true =
    rw (eq-eqb (length_field s) _ (suited at.Else-taken-checkpoint_size), ← made, ← c.fits-2.ensures) c.if-not-fits-2.false
    in
    let whole =
    restore-whole card s (card-fits at.Else-not-fits) (head at.In_ok-check_head) _ _ (same at.Else-not-same_pattern) passes made
    (ap (λ (n : ℕ). n + 4) c.word_at.ensures)
    in
    record { verdict = whole.0; matcher = whole.1.0; taken = whole.1.1 }
