-- `card_core::make` meets its contract: the builder is led through the passage byte by byte.
use mathlib.Core.Path.{◌≡◌, refl, sym, ◌∙◌, ap}
use native.Mathlib.Omega.{arith}
use lib.ListN.{length}
use lib.Seq.{take_all}
use Rattle.std.proofs.lemmas.Result.{err_from_is_err_and, IfOk-weaker}
use Rattle.signature.specs.Signature.{signature_of}
use Rattle.record.proofs.Refused.{refusal-given}
use Rattle.card_core.specs.Card.{made_signature}
use Rattle.card_core.proofs.Passage.{Began, begin-number, began, accepted, more, given, made-own}
use Rattle.card_core.proofs.make.Goals as goal
use Rattle.card_core.proofs.make.Goals.{In_ok-builder}

pub returns-in_err-builder-clause-verdict : goal.returns-in_err-builder-clause-verdict
returns-in_err-builder-clause-verdict c =
    let e = err_from_is_err_and c.from_residual.result c.from_residual.ensures.1 in
    rw (e.1, e.2) (begin-number (length c.args.passage.now) c.args.key _ _ c.told.ensures c.in_err-builder.ensures.verdict)

-- the builder has begun
start : (c : In_ok-builder) → Began (length c.args.passage.now) c.args.key c.in_ok-builder.builder
start c =
    let b = c.in_ok-builder in
    began (length c.args.passage.now) c.args.key 0 _ c.told.ensures b.ensures.verdict b.builder b.ensures.builder refl

pub loop-byte-init : goal.loop-byte-init
loop-byte-init c = (start (goal.at.loop-byte-init c).In_ok-builder).making

pub returns-in_err-push-clause-verdict : goal.returns-in_err-push-clause-verdict
returns-in_err-push-clause-verdict c =
    let l = c.loop-byte in
    absurd (refusal-given _ (c.in_err-push.ensures.verdict ∙ accepted _ _ l.byte-index l.builder l.invariant (omega arith)))

pub loop-byte-preserved : goal.loop-byte-preserved
loop-byte-preserved c =
    let l = c.loop-byte in
    let byte = c.type_inv.passage l.byte-index in
    rw c.push.ensures.builder (more _ _ l.byte-index l.builder l.invariant (omega arith) (omega (arith, byte)))

pub returns : goal.returns
returns c =
    let passage = c.args.passage.now in
    let key = c.args.key in
    let l = c.loop-byte in
    let begun = start (goal.at.returns c).In_ok-builder in
    let whole = given _ _ l.builder (rw (take_all l.byte-index _ c.loop-byte-test.false) at l.invariant) in
    let own = whole.1 ∙ ap (λ k. signature_of k passage) begun.same_key ∙ sym (made-own key passage begun.accepted) in
    record {
      verdict = c.finish.ensures.verdict ∙ whole.0 ∙ sym begun.accepted;
      signature = IfOk-weaker c.finish.result _ (λ made. made ≡ made_signature key passage) (λ made e. e ∙ own) c.finish.ensures.signature;
    }
