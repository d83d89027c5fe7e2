-- `matcher::Matcher::stroke_shared` meets its contract.
use mathlib.Core.Path.{sym, ◌∙◌, ap}
use borrow.Author.Tests.{not-true}
use Rattle.fingerprint.proofs.Laws.{eqb-same}
use Rattle.matcher.proofs.Sound.{taken-below}
use Rattle.matcher.proofs.Climbing.{climbed}
use Rattle.matcher.proofs.Quiet.{sooner}
use Rattle.matcher.proofs.Shared.{taken-shared, taken-own, shared-key, stages-walked, answer-walked, stages-quiet, answer-quiet}
use Rattle.matcher.proofs.Matcher.stroke_shared.Goals as goal

pub returns-then-now-until-clause-stages : goal.returns-then-now-until-clause-stages
returns-then-now-until-clause-stages c =
    let accepted = sym c.in_ok-until.ensures.verdict in
    let w = c.args.self in
    let at = c.next-now.ensures.more (taken-below w (taken-own _ _ w accepted)) in
    let calm = sooner w (rw at at c.if-now-until.true) (c.in_ok-until.ensures.until c.if-other.true) in
    let other = rw c.of_byte.ensures at (sym (eqb-same _ _) ∙ not-true _ (sym c.if-other.ensures)) in
    rw c.quiet.ensures.0 (stages-quiet _ _ w accepted c.args.byte calm other)

pub returns-then-now-until-clause-answer : goal.returns-then-now-until-clause-answer
returns-then-now-until-clause-answer c =
    let accepted = sym c.in_ok-until.ensures.verdict in
    let w = c.args.self in
    let at = c.next-now.ensures.more (taken-below w (taken-own _ _ w accepted)) in
    let calm = sooner w (rw at at c.if-now-until.true) (c.in_ok-until.ensures.until c.if-other.true) in
    let other = rw c.of_byte.ensures at (sym (eqb-same _ _) ∙ not-true _ (sym c.if-other.ensures)) in
    c.quiet.ensures.1 ∙ answer-quiet _ _ w accepted c.args.byte calm other

pub returns-clause-stages : goal.returns-clause-stages
returns-clause-stages c =
    let accepted = sym c.in_ok-until.ensures.verdict in
    let w = c.args.self in
    ap (λ r. r.stages)
    (climbed w c.args.byte (taken-own _ _ w accepted) _ (sym (shared-key _ _ w (taken-shared _ _ w accepted))) _ c.shifts-shifts.ensures _
    c.next-now.ensures.more c.climb-walk.result c.climb-walk.ensures)
    ∙ stages-walked _ _ w accepted c.args.byte

pub returns-clause-answer : goal.returns-clause-answer
returns-clause-answer c =
    let accepted = sym c.in_ok-until.ensures.verdict in
    let w = c.args.self in
    ap (λ r. r.answer)
    (climbed w c.args.byte (taken-own _ _ w accepted) _ (sym (shared-key _ _ w (taken-shared _ _ w accepted))) _ c.shifts-shifts.ensures _
    c.next-now.ensures.more c.climb-walk.result c.climb-walk.ensures)
    ∙ answer-walked _ _ w accepted c.args.byte
