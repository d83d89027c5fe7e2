-- `card_core::write_card` meets its contract: the refusals of making the card, and then what writing it promises.
use mathlib.Core.Path.{◌≡◌, sym, ◌∙◌}
use Rattle.std.proofs.lemmas.Result.{err_from_is_err_and, IfOk-weaker}
use Rattle.record.proofs.Refused.{refusal-given}
use Rattle.card_core.specs.Card.{card_used}
use Rattle.card_core.proofs.Cards.{not_made, made}
use Rattle.card_core.proofs.write_card.Goals as goal

pub returns-in_err-signature : goal.returns-in_err-signature
returns-in_err-signature c =
    let card = c.in_err-signature.ensures in
    let nothing = not_made _ _ _ (λ z. refusal-given _ (card.verdict ∙ z)) in
    let e = err_from_is_err_and c.from_residual.result c.from_residual.ensures.1 in
    rw (e.1, e.2) (record { verdict = card.verdict ∙ nothing.0; used = tt; buffer = nothing.1 })

pub returns : goal.returns
returns c =
    let card = c.in_ok-signature.ensures in
    let written = c.write_signature.ensures in
    let whole = made _ _ _ _ (sym card.verdict) card.signature in
    record {
      verdict = written.verdict ∙ whole.0;
      used =
          IfOk-weaker c.write_signature.result _ (λ used. used ≡ card_used c.args.key c.args.passage.now c.args.out.now)
          (λ used e. e ∙ whole.1) written.used;
      buffer = written.buffer ∙ whole.2;
    }
