-- `scanner::quiet_until`: the loop has seen to the stages below i.
use Rattle.std.proofs.Common.{◌≤◌}
use Rattle.stage.specs.Stage.{max_taken}
use Rattle.stage.specs.Stages.{stage_count}
use Rattle.walk.specs.Quiet.{Unripe}
use Rattle.scanner.proofs.quiet_until.Given as goal

abbrev pub invariant-loop-i : goal.invariant-loop-i
invariant-loop-i l = record {
  places : l.i-end ≤ stage_count;
  within : l.until ≤ max_taken;
  unripe : Unripe l.i l.m l.until l.stages;
}
