-- Taking off the first of two starts: "when one is left, last and F_last become first and F_first". Read as the last being kept (`taken_off`) or
-- as the first being moved by the step, with the step print joined to it, the sentence leaves the same stage of every watch that is no misfit.
-- Assumes nothing.
use Prim.Native.Nat.{ℕ, ◌<◌}
use mathlib.Core.Path.{◌≡◌, ap}
use mathlib.Core.Bool.{true}
use Rattle.stage.specs.Stage.{forward, alone, taken_off}
use Rattle.stage.specs.Stages.{stage_count, stage_at}
use Rattle.stage.proofs.Follows.{two-agree}
use Rattle.matcher.specs.declared.Matcher.{Matcher}
use Rattle.matcher.specs.Matcher.{matcher_fits}
use Rattle.matcher.proofs.Sound.{sound}

pub both-readings :
    (w : Matcher)
    → matcher_fits w ≡ true
    → (i : ℕ)
    → i < stage_count
    → let s = stage_at w.stages i in
    s.held ≡ 2
    → taken_off w.signature.key s ≡ alone (forward w.signature.key s.first s.step)
unfolding taken_off
both-readings w fits i place two =
    let q = sound w fits in
    rw (two, taken_off) (ap alone (two-agree w.signature.key _ _ i _ _ (q.stage i place) (q.follows i place) two))
