-- `report_lines::put_notes` meets its contract: the lines of the notes passed stand behind one another.
use Prim.Native.Nat.{◌+◌, ◌*◌, ◌/◌, ◌≤◌}
use mathlib.Core.Path.{sym, ◌∙◌}
use native.Mathlib.Omega.{arith}
use lib.ListN.{length}
use borrow.Author.Tests.{leb-true, leb-false}
use Rattle.notes.specs.Notes.{note_size}
use Rattle.report_lines.specs.Sizes.{most_line}
use Rattle.report_lines.proofs.Notes.{put-more, put_all, put-nothing}
use Rattle.report_lines.proofs.put_notes.Goals as goal

pub returns-then-not-has_lines : goal.returns-then-not-has_lines
returns-then-not-has_lines c =
    let done = put-nothing _ _ _ (leb-false _ _ (sym c.if-not-has_lines.ensures)) in
    record { value = done.0; buf_after = done.1 }

pub loop-note-preserved : goal.loop-note-preserved
loop-note-preserved c =
    let q = c.loop-note.invariant in
    let step = c.in-Some.ensures.steps in
    (step.0 ∙ q.0, put-more _ _ _ _ _ _ q.1 _ _ _ _ step.1.0 (step.1.1 ∙ q.0) c.put_note-next.ensures)

pub returns : goal.returns
returns c =
    let q = c.loop-note.invariant in
    let has : c.args.at + most_line * (length c.args.notes.now / note_size) ≤ length c.args.buf.now =
    leb-true _ _ (sym c.if-not-has_lines.ensures)
    in
    let done = put_all _ _ _ _ _ _ q.1 (omega (arith, c.in-None.ensures.steps.1.0, q.0)) has in
    record { value = done.0; buf_after = done.1 }
