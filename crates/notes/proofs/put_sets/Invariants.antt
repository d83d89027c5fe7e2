-- `notes::put_sets`: the notes of the sets passed stand one behind another.
use Rattle.std.proofs.Common.{◌*◌, take}
use mathlib.Core.List.{flat_map}
use Rattle.lists.specs.Stored.{Stored}
use Rattle.notes.specs.Notes.{note_size, set_note}
use Rattle.notes.proofs.put_sets.Given as goal

abbrev pub invariant-loop-set : goal.invariant-loop-set
invariant-loop-set l =
    Stored l.initial.notes l.initial.next (flat_map (set_note l.t) (take l.set-index l.sets)) (note_size * l.set-index) l.next l.notes
