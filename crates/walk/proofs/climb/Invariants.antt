-- `walk::climb`: the loop keeps what is still to be done.
use Rattle.walk.proofs.Rounds.{Turn}
use Rattle.walk.proofs.climb.Given as goal

abbrev pub invariant-loop-i : goal.invariant-loop-i
invariant-loop-i l = Turn l.c l.shifts l.k l.i l.initial.w l.w
