-- What it says of a watch that parking accepts it: it fits, and its t can be said.
-- Assumes nothing.
use mathlib.Core.Path.{◌≡◌}
use mathlib.Core.Bool.{true}
use native.Mathlib.Omega.{arith}
use Rattle.matcher.specs.declared.Matcher.{Matcher}
use Rattle.matcher.specs.Matcher.{matcher_fits}
use Rattle.checkpoint_format.specs.declared.Format.{Format}
use Rattle.checkpoint_format.specs.Calls.{can_say}
use Rattle.checkpoint_save.specs.Calls.{watch_judged}
use Rattle.record.proofs.Accepted.{passed}

pub judged-passed : (f : Format) (w : Matcher) → watch_judged f w ≡ 0 → (matcher_fits w ≡ true) × (can_say f w.now.at ≡ true)
judged-passed f w e =
    let q = passed (matcher_fits w) 10 (λ z. omega arith) e in
    (q.0, (passed (can_say f w.now.at) 18 (λ z. omega arith) q.1).0)
