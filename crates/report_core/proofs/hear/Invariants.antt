-- `report_core::hear` meets its contract: each turn adds to the buffer's front what the bytes that it takes bring.
use Rattle.std.proofs.Common.{◌-◌, ◌≡◌, length}
use Rattle.refusal.specs.Number.{number}
use Rattle.report_core.proofs.Feeding.{Along}
use Rattle.report_core.proofs.hear.Given as goal

abbrev pub invariant-loop-fed : goal.invariant-loop-fed
invariant-loop-fed l =
    Along l.fn.progress l.bytes l.initial.out l.fed.progress l.fed.taken l.fed.used l.out × (number l.fed.verdict ≡ 0)

abbrev pub decreases-loop-fed : goal.decreases-loop-fed
decreases-loop-fed l = length l.bytes - l.fed.taken
