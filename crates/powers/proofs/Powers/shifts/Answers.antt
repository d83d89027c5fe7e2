-- `powers::Powers::shifts` meets its contract: the table of the key, but for the last place.
use mathlib.Core.Path.{◌∙◌, ap}
use native.Mathlib.Omega.{arith}
use Rattle.ladder.proofs.Levels.{levels-bound}
use Rattle.powers.specs.Powers.{squares_of}
use Rattle.powers.proofs.Digits.{levels-mono, shared-shifts}
use Rattle.powers.proofs.Powers.shifts.Goals as goal
use Rattle.powers.proofs.Powers.shifts.Goals.{then-self-m, else-self-m}

pub bounds-shifts-levels : goal.bounds-shifts-levels
bounds-shifts-levels c = omega (arith, c.levels.ensures, levels-bound c.args.m (omega arith))

pub returns-after-self-m : goal.returns-after-self-m
returns-after-self-m c =
    λ short.
    let own = c.args.self.now in
    let m = c.args.m in
    let placed = bounds-shifts-levels c in
    let capped = ap (λ t. t.most) c.self.view_is in
    elim c.if-self-m.branch [
      | then-self-m w ↦
          let table = w.shifts-is ∙ w.squares-shifts.ensures ∙ ap (λ t. squares_of t.key m) c.self.view_is in
          shared-shifts own.key m m _ _ _ table placed c.levels.ensures (levels-mono _ _ (omega arith)) c.raise.ensures
      | else-self-m w ↦
          let table = w.shifts-is ∙ c.self.invariant.0 ∙ ap (λ t. squares_of t.key t.most) c.self.view_is in
          shared-shifts own.key own.most m _ _ _ table placed c.levels.ensures (levels-mono _ _ (omega arith)) c.raise.ensures
    ]
