use Rattle.report_loop.specs.State.{Stands}
use Rattle.report_loop.proofs.Standings.{distance}
use Rattle.report_loop.proofs.read_on.Given as goal

-- what was written is the output of what was read
abbrev pub invariant-loop-s : goal.invariant-loop-s
invariant-loop-s g l = Stands l.s

-- how far the end can be
abbrev pub decreases-loop-s : goal.decreases-loop-s
decreases-loop-s g l = distance l.s.more l.s.progress.matcher.now.at
