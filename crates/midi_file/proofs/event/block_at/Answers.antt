-- `midi_file::event::block_at` meets its contract: a quantity ends within the track.
use Prim.Native.Nat.{◌+◌, ◌≤◌}
use mathlib.Core.Path.{sym}
use native.Mathlib.Omega.{arith}
use lib.ListN.{length}
use borrow.Author.Tests.{le-leb}
use Rattle.midi_file.specs.Track.{block_from}
use Rattle.midi_file.proofs.Bounds.{quantity-bounds}
use Rattle.midi_file.proofs.event.block_at.Goals as goal

pub overflow_sub-track : goal.overflow_sub-track
overflow_sub-track c = (quantity-bounds c.args.track.now 4 0 c.args.at _ (sym c.in_ok-value.ensures)).1

pub returns : goal.returns
unfolding block_from
returns c =
    let q = c.in_ok-value.field-0 in
    let track = c.args.track.now in
    let inside : q.behind ≤ length track = (quantity-bounds track 4 0 c.args.at _ (sym c.in_ok-value.ensures)).1 in
    rw (← c.in_ok-value.ensures, le-leb (q.behind + q.value) (length track) (omega arith))
