-- `report_lines::put_notes` meets its contract: the lines of the notes passed stand behind one another.
use mathlib.Core.Path.{◌≡◌}
use Rattle.std.specs.Slice.Iter.{chunks_exact_rest, chunks_exact_size}
use Rattle.notes.specs.Notes.{note_size}
use Rattle.report_lines.proofs.Notes.{Putting}
use Rattle.report_lines.proofs.put_notes.Given as goal

abbrev pub invariant-loop-note : goal.invariant-loop-note
invariant-loop-note l =
    (chunks_exact_size l.note-iterator ≡ note_size)
    × Putting l.initial.buf l.at l.notes (chunks_exact_rest l.note-iterator) l.next l.buf
