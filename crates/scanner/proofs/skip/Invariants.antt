-- `scanner::skip`: what is still to be passed over leads where all of it led at first.
use Rattle.scanner.proofs.Skipping.{Skipping}
use Rattle.scanner.proofs.skip.Given as goal

abbrev pub invariant-loop-byte : goal.invariant-loop-byte
invariant-loop-byte l = Skipping l.key l.first l.most l.initial.mark l.input l.byte-index l.mark
