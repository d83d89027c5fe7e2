-- `chunk::track_of` meets its contract: the chunks passed are whole, and no tracks.
use Prim.Native.Nat.{◌-◌}
use lib.ListN.{length}
use Rattle.midi_file.proofs.Chunks.{Passed}
use Rattle.midi_file.proofs.chunk.track_of.Given as goal

abbrev pub invariant-loop-at : goal.invariant-loop-at
invariant-loop-at l = Passed l.file l.at

abbrev pub decreases-loop-at : goal.decreases-loop-at
decreases-loop-at l = length l.file - l.at
