-- `matcher::judge` meets its contract.
use mathlib.Core.Path.{◌≡◌}
use mathlib.Core.Bool.{true}
use Rattle.walk.specs.Quiet.{Unripe}
use Rattle.matcher.proofs.Judging.{Judged}
use Rattle.matcher.proofs.judge.Given as goal

abbrev pub invariant-loop-i : goal.invariant-loop-i
invariant-loop-i l =
    Judged l.powers.key l.m l.t l.since l.stages l.i × (l.asked ≡ true → Unripe l.i l.m l.until l.stages)
