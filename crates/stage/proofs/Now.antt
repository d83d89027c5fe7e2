-- What it says of t with F_t that they are no misfit.
-- Assumes nothing.
use Prim.Native.Nat.{◌≤◌}
use mathlib.Core.Path.{◌≡◌}
use mathlib.Core.Bool.{true, cond}
use mathlib.Core.List.{[], ◌∷◌}
use lib.Dec.{leb, eqb}
use borrow.Author.Tests.{leb-true, le-leb, eqb-true}
use Rattle.fingerprint.specs.Fingerprint.{Below, print_fits, same, empty}
use Rattle.fingerprint.proofs.Laws.{same-eq, eq-same, fits_below, below-fits}
use Rattle.lists.proofs.Cases.{by-test, each}
use Rattle.stage.specs.declared.Mark.{Mark}
use Rattle.stage.specs.Stage.{max_taken, now_fits}

pub record SoundNow (now : Mark) : Type 0 where
  pub within : now.at ≤ max_taken
  pub print : Below now.print
  pub starts : now.at ≡ 0 → now.print ≡ empty

pub sound-now : (now : Mark) → now_fits now ≡ true → SoundNow now
sound-now now e =
    let q =
    each (leb now.at max_taken)
    (print_fits now.print ∷ cond (eqb now.at 0) (same now.print empty) true ∷ [])
    e
    in
    record {
      within = leb-true _ _ q.0;
      print = fits_below _ q.1.0;
      starts = λ z. same-eq _ _ (rw z at q.1.1.0);
    }

pub now-fits : (now : Mark) → SoundNow now → now_fits now ≡ true
now-fits now q =
    rw (le-leb now.at max_taken q.within, below-fits _ q.print)
    (by-test (eqb now.at 0) (λ e. rw (e, eq-same now.print empty (q.starts (eqb-true _ _ e)))) (λ e. rw e))
