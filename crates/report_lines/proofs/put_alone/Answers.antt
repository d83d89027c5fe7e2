-- `report_lines::put_alone` meets its contract: the line is put where the test found room, and nothing where it did not.
use Prim.Native.Nat.{◌+◌, ◌≤◌}
use mathlib.Core.Path.{sym}
use native.Mathlib.Omega.{arith}
use lib.ListN.{length}
use borrow.Author.Tests.{leb-true, leb-false}
use Rattle.report_lines.specs.Lines.{room}
use Rattle.report_lines.proofs.Storing.{finish, refuse}
use Rattle.report_lines.proofs.put_alone.Goals as goal

pub returns-then-has_room : goal.returns-then-has_room
returns-then-has_room c =
    let has : c.args.at + room ≤ length c.args.buf.now = leb-true _ _ (sym c.if-has_room.ensures) in
    let done = finish has c.put_line.ensures (omega arith) in
    record { value = done.0; buf_after = done.1 }

pub returns-else-has_room : goal.returns-else-has_room
returns-else-has_room c =
    let done = refuse _ _ _ (leb-false _ _ (sym c.if-has_room.ensures)) in
    record { value = done.0; buf_after = done.1 }
