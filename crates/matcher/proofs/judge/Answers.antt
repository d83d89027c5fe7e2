-- `matcher::judge` meets its contract.
use mathlib.Core.Path.{sym, ◌∙◌}
use mathlib.Core.Bool.{true≢false}
use native.Mathlib.Numerals.{add-one}
use native.Mathlib.Nat.{not-suc-le-zero}
use Rattle.walk.proofs.Quiet.{unripe-more}
use Rattle.matcher.proofs.Judging.{judged-none, judged-more, judged-fails}
use Rattle.matcher.proofs.judge.Goals as goal
use Rattle.matcher.proofs.judge.Goals.{then-asked, else-asked}

pub loop-i-init : goal.loop-i-init
loop-i-init c = (judged-none _ _ _ _ _, λ e j l. absurd (not-suc-le-zero l))

pub returns-then-not-stage_fits-clause-fits : goal.returns-then-not-stage_fits-clause-fits
returns-then-not-stage_fits-clause-fits c =
    sym (judged-fails _ _ _ _ _ c.loop-i.i c.loop-i-test.true (sym c.stage_fits.ensures ∙ c.if-not-stage_fits.true))

pub loop-i-preserved : goal.loop-i-preserved
loop-i-preserved c =
    let loop = c.loop-i in
    let args = c.args in (
      judged-more _ _ _ _ _ loop.i loop.invariant.0 (sym c.stage_fits.ensures ∙ c.if-not-stage_fits.false),
      elim c.if-asked.branch [
        | then-asked w ↦
            rw w.until-is (λ e. unripe-more loop.i args.m args.stages.now c.requires.0 (rw add-one at w.quiet_until-until.ensures) (loop.invariant.1 e))
        | else-asked w ↦ λ e. absurd (true≢false (sym e ∙ w.if-asked.false))
      ],
    )
