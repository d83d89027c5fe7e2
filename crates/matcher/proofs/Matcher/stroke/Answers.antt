-- `matcher::Matcher::stroke` meets its contract: the watch is ready as one that shares its own key.
use mathlib.Core.Path.{◌≡◌, sym, ◌∙◌, ap}
use borrow.Author.Rules.{rules}
use Rattle.fingerprint.specs.declared.Key.{Key}
use Rattle.refusal.specs.Number.{number}
use Rattle.matcher.specs.Shared.{shared_refusal}
use Rattle.matcher.specs.Stroke.{stroke_refusal}
use Rattle.matcher.proofs.Climbing.{climbed}
use Rattle.matcher.proofs.Shared.{lone-refusal}
use Rattle.matcher.proofs.Sound.{taken-below, after-taken, answer-taken}
use Rattle.matcher.proofs.Matcher.stroke.Goals as goal

pub returns-in_err-ready-clause-verdict : goal.returns-in_err-ready-clause-verdict
returns-in_err-ready-clause-verdict c =
    let w = c.args.self in
    let told : number c.from_residual.result ≡ shared_refusal c.of-powers.result.key 0 w = search rules in
    told ∙ ap (λ (key : Key). shared_refusal key 0 w) (ap (λ p. p.key) c.of-powers.ensures) ∙ lone-refusal w

pub returns-clause-answer : goal.returns-clause-answer
returns-clause-answer c =
    let w = c.args.self in
    let own : c.of-powers.result.key ≡ w.signature.key = ap (λ p. p.key) c.of-powers.ensures in
    let taken : stroke_refusal w ≡ 0 =
    sym (c.in_ok-ready.ensures.verdict ∙ ap (λ (key : Key). shared_refusal key 0 w) own ∙ lone-refusal w)
    in
    ap (λ r. r.answer)
    (climbed w c.args.byte taken _ own _ c.shifts-shifts.ensures _ c.next-now.ensures.more c.climb-walk.result c.climb-walk.ensures)
    ∙ sym (answer-taken w c.args.byte taken)

pub returns-clause-matcher : goal.returns-clause-matcher
returns-clause-matcher c =
    let w = c.args.self in
    let own : c.of-powers.result.key ≡ w.signature.key = ap (λ p. p.key) c.of-powers.ensures in
    let taken : stroke_refusal w ≡ 0 =
    sym (c.in_ok-ready.ensures.verdict ∙ ap (λ (key : Key). shared_refusal key 0 w) own ∙ lone-refusal w)
    in
    rw (
      after-taken w c.args.byte taken,
      ← climbed w c.args.byte taken _ own _ c.shifts-shifts.ensures _ c.next-now.ensures.more c.climb-walk.result c.climb-walk.ensures,
      ← c.next-now.ensures.more (taken-below w taken),
    )
    c.moved.ensures
