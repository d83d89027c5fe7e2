-- `driver_input::fill_list` meets its contract: the places passed hold their numbers.
use mathlib.Core.Path.{◌≡◌}
use lib.ListN.{take}
use Rattle.lists.specs.Lists.{tabulate}
use Rattle.driver_input.specs.Input.{number_in}
use Rattle.driver_input.proofs.fill_list.Given as goal

abbrev pub invariant-loop-i : goal.invariant-loop-i
invariant-loop-i l = take l.i l.numbers ≡ tabulate (number_in l.values) l.i
