-- `report_lines::put_line` meets its contract: the items of the numbers passed stand behind the letter.
use mathlib.Core.List.{flat_map}
use native.Mathlib.Omega.{arith}
use lib.Seq.{take_all}
use Rattle.report_lines.specs.Lines.{item, line}
use Rattle.lists.proofs.Storing.{one, nothing, run, run_more, at_most}
use Rattle.report_lines.proofs.put_line.Goals as goal

pub loop-n-init : goal.loop-n-init
unfolding flat_map
loop-n-init c = nothing _ _

pub loop-n-preserved : goal.loop-n-preserved
loop-n-preserved c =
    let l = c.loop-n in
    let turn = run_more item _ l.n-index 0 (omega arith) l.invariant c.put_item-next.ensures in
    at_most (omega arith) turn

pub returns : goal.returns
unfolding line
returns c =
    let l = c.loop-n in
    let items = rw (take_all l.n-index c.args.numbers.now (omega arith)) at l.invariant in
    at_most (omega arith) (run (run (one _ _ _) items) (one _ _ _))
