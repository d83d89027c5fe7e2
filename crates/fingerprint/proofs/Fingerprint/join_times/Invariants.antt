-- `fingerprint::Fingerprint::join_times` meets its contract: the joins left of the block at hand are those wanted.
use Rattle.fingerprint.proofs.Joins.{Halved}
use Rattle.fingerprint.proofs.Fingerprint.join_times.Given as goal

abbrev pub invariant-loop-many : goal.invariant-loop-many
invariant-loop-many l = Halved l.initial.front l.initial.block l.initial.length l.times l.front l.block l.length l.many

abbrev pub decreases-loop-many : goal.decreases-loop-many
decreases-loop-many l = l.many
