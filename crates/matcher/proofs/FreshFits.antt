-- The fresh watch of a card that is no misfit is none.
-- Assumes nothing.
use mathlib.Core.Path.{◌≡◌, refl}
use mathlib.Core.Bool.{true}
use native.Mathlib.Omega.{arith}
use Rattle.fingerprint.proofs.Laws.{empty-below}
use Rattle.signature.specs.declared.Signature.{Signature}
use Rattle.signature.specs.Signature.{signature_fits}
use Rattle.stage.proofs.Fit.{idle}
use Rattle.stage.proofs.Follows.{follows-none}
use Rattle.stage.proofs.Stages.{no-stage-at}
use Rattle.matcher.specs.Matcher.{matcher_fits, blank, fresh}
use Rattle.matcher.proofs.Sound.{sound-fits}

pub fresh-fits : (s : Signature) → signature_fits s ≡ true → matcher_fits (fresh s) ≡ true
unfolding fresh
fresh-fits s e =
    rw e
    (sound-fits (blank s)
    (record {
      card = e;
      within = omega arith;
      print = empty-below;
      starts = λ z. refl;
      stage = λ i l. idle (no-stage-at i);
      follows = λ i l. rw (no-stage-at i) (follows-none s.key);
    }))
