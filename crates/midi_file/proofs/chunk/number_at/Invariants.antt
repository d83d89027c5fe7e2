-- `chunk::number_at` meets its contract: the bytes passed are the number's high bytes.
use Rattle.midi_file.proofs.Chunks.{Counted}
use Rattle.midi_file.proofs.chunk.number_at.Given as goal

abbrev pub invariant-loop-byte : goal.invariant-loop-byte
invariant-loop-byte l = Counted l.file l.at l.number l.byte-index
