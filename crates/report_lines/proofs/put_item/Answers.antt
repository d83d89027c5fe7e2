-- `report_lines::put_item` meets its contract: a space, and the digits behind it.
use native.Mathlib.Omega.{arith}
use lib.ListN.{length-set}
use Rattle.report_lines.specs.Lines.{item}
use Rattle.lists.specs.Stored.{Stored}
use Rattle.report_lines.specs.Sizes.{most_item}
use Rattle.lists.proofs.Storing.{one, run}
use Rattle.report_lines.proofs.Storing.{number}
use Rattle.report_lines.proofs.put_item.Goals as goal

pub returns : goal.returns
returns c = (let its-stored : let a = c.args in Stored a.buf.now a.at (item a.n) most_item c.put.result c.put.new.buf = run (one _ _ _) (number (omega arith) (simp length-set (omega arith)) c.put.ensures.value c.put.ensures.buf_after) in its-stored)
