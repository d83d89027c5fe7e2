-- `report_lines::put_line` meets its contract: the items of the numbers passed stand behind the letter.
use Prim.Native.Nat.{◌*◌}
use mathlib.Core.List.{flat_map}
use lib.ListN.{take}
use Rattle.lists.specs.Stored.{Stored}
use Rattle.report_lines.specs.Lines.{item}
use Rattle.report_lines.specs.Sizes.{most_item}
use Rattle.report_lines.proofs.put_line.Given as goal

abbrev pub invariant-loop-n : goal.invariant-loop-n
invariant-loop-n l = Stored l.initial.buf l.initial.next (flat_map item (take l.n-index l.numbers)) (most_item * l.n-index) l.next l.buf
