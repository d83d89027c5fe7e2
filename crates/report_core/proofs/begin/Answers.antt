-- `report_core::begin` meets its contract: a card that is read starts a watch.
use Rattle.std.proofs.Common.{◌≡◌, sym, ◌∙◌}
use Rattle.refusal.proofs.Distinct.{refused-some}
use Rattle.matcher.specs.Matcher.{fresh_refusal}
use Rattle.report_core.proofs.Sending.{read-starts}
use Rattle.report_core.proofs.begin.Goals as goal

pub returns-in_err-matcher : goal.returns-in_err-matcher
returns-in_err-matcher c =
    let s = c.in_ok-card.ensures in
    let none : fresh_refusal c.in_ok-card.card.signature ≡ 0 = rw s.signature (read-starts _ (sym s.verdict)) in
    absurd (refused-some c.in_err-matcher.was (c.start.ensures.verdict ∙ none))
