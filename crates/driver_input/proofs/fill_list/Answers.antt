-- `driver_input::fill_list` meets its contract: the places passed hold their numbers.
use mathlib.Core.List.{[]}
use native.Mathlib.Omega.{arith}
use Rattle.lists.proofs.Laws.{fill_none, fill_more}
use Rattle.driver_input.specs.Input.{number_in}
use Rattle.driver_input.proofs.fill_list.Goals as goal

pub loop-i-init : goal.loop-i-init
loop-i-init c = fill_none (number_in c.args.values.now) []

pub loop-i-preserved : goal.loop-i-preserved
loop-i-preserved c =
    rw c.number.ensures
    (fill_more (number_in c.args.values.now) c.loop-i.numbers c.loop-i.i (omega arith) c.loop-i.invariant)
