-- `notes::put_sets` meets its contract: one note more stands behind those of the sets passed.
use Rattle.std.proofs.Common.{◌≡◌, length, arith}
use mathlib.Core.List.{flat_map}
use native.Mathlib.Nat.{le_refl}
use lib.Seq.{take_all}
use Rattle.lists.proofs.Storing.{nothing, run_more, at_most, same_size}
use Rattle.notes.specs.Notes.{set_note}
use Rattle.notes.proofs.put_sets.Goals as goal

pub loop-set-init : goal.loop-set-init
unfolding flat_map
loop-set-init c = nothing _ _

pub put_note-next-requires : goal.put_note-next-requires
put_note-next-requires c = omega (arith, same_size c.loop-set.invariant)

pub loop-set-preserved : goal.loop-set-preserved
loop-set-preserved c =
    at_most (omega arith)
    (run_more (set_note _) _ c.loop-set.set-index _ c.loop-set-test.true c.loop-set.invariant c.put_note-next.ensures)

pub returns : goal.returns
returns c =
    let all : c.loop-set.set-index ≡ length c.args.sets.now = omega arith in
    rw (all, take_all (length c.args.sets.now) c.args.sets.now (le_refl _)) at c.loop-set.invariant
