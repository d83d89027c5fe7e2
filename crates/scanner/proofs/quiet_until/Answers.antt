-- `scanner::quiet_until` meets its contract: no stage was seen to yet.
use Rattle.std.proofs.Common.{arith}
use native.Mathlib.Nat.{not-suc-le-zero}
use Rattle.ladder.proofs.Levels.{levels-bound}
use Rattle.scanner.proofs.quiet_until.Goals as goal

pub loop-i-init : goal.loop-i-init
loop-i-init c =
    record {
      places = omega (arith, levels-bound c.args.m c.requires.1);
      within = omega arith;
      unripe = λ j l. absurd (not-suc-le-zero l);
    }
