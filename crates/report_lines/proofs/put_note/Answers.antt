-- `report_lines::put_note` meets its contract: the kind of the note says which line it has.
use Prim.Native.Nat.{◌-◌}
use native.Mathlib.Omega.{arith}
use lib.ListN.{length, drop, length-drop}
use lib.Seq.{take_all}
use borrow.Author.Tests.{eq-eqb, ne_eqb}
use Rattle.report_lines.proofs.Notes.{lone-line}
use Rattle.report_lines.proofs.put_note.Goals as goal

pub returns-then-note-eq0 : goal.returns-then-note-eq0
returns-then-note-eq0 c = rw (lone-line c.args.note.now c.requires.whole, eq-eqb _ 0 c.if-note-eq0.true) c.put_line.ensures

pub returns-else-note-eq0 : goal.returns-else-note-eq0
returns-else-note-eq0 c =
    let note = c.args.note.now in
    let all = take_all (length note - 1) (drop 1 note) (rw length-drop (omega arith)) in
    rw (lone-line note c.requires.whole, ne_eqb _ 0 c.if-note-eq0.false) (rw all at c.put_line-else-note-eq0.ensures)
