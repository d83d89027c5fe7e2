-- `notes::put_answer` meets its contract: the notes of the sets stand behind the ring's.
use Rattle.std.proofs.Common.{◌≡◌, true, length, length-take, sym, ◌∙◌, arith, rules}
use Rattle.lists.proofs.Laws.{counted-elements}
use Rattle.lists.proofs.Storing.{run, at_most, take-capped}
use Rattle.stage.specs.Stages.{stage_count}
use Rattle.notes.specs.Notes.{notes_of, room_for}
use Rattle.notes.proofs.put_answer.Goals as goal

pub returns : goal.returns
unfolding notes_of
returns c =
    let a = c.args.answer in
    let places : length c.args.answer.sets ≡ stage_count = search (counted-elements, rules) in
    let room : room_for (length c.args.notes.now) c.args.at ≡ true = sym c.has_room.ensures ∙ c.if-not-has_room.false in
    let sets = rw (c.set_asides.ensures, ← places, take-capped a.asides a.sets) at c.put_sets.ensures in
    rw room (at_most (simp length-take (omega arith)) (run c.put_ring-next.ensures sets))
