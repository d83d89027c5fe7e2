-- The number of what a call says tells whether it was refused, and how: no two refusals have one number.
-- Assumes nothing.
use Prim.Native.Nat.{ℕ}
use mathlib.Core.Path.{◌≡◌, refl, sym, ◌∙◌, ap}
use mathlib.Core.Bool.{cond}
use lib.Dec.{eqb}
use Rattle.refusal.specs.declared.Refusal.{Refusal}
use Rattle.refusal.specs.declared.Refusal.TheVariants.{Empty, Overlong, Key, Unfinished, Surplus, Spent, NoSpace, Short, Kind, Misfit, OtherPassage, Full, NameTaken, NameAbsent, NoTrack, Broken, OutsideBells, TooWide}
use Rattle.std.proofs.Common.{Result, Ok, Err}
use Rattle.refusal.specs.Number.{refusal_number, number}

verdict_of : ℕ → Result (Unit {0}) Refusal
verdict_of n =
    cond (eqb n 1) (Err Empty)
    (cond (eqb n 2) (Err Overlong)
    (cond (eqb n 3) (Err Key)
    (cond (eqb n 4) (Err Unfinished)
    (cond (eqb n 5) (Err Surplus)
    (cond (eqb n 6) (Err Spent)
    (cond (eqb n 7) (Err NoSpace)
    (cond (eqb n 8) (Err Short)
    (cond (eqb n 9) (Err Kind)
    (cond (eqb n 10) (Err Misfit)
    (cond (eqb n 11) (Err OtherPassage)
    (cond (eqb n 12) (Err Full)
    (cond (eqb n 13) (Err NameTaken)
    (cond (eqb n 14) (Err NameAbsent)
    (cond (eqb n 15) (Err NoTrack)
    (cond (eqb n 16) (Err Broken)
    (cond (eqb n 17) (Err OutsideBells)
    (cond (eqb n 18) (Err TooWide)
    (Ok tt))))))))))))))))))

told : (v : Result (Unit {0}) Refusal) → verdict_of (number v) ≡ v
unfolding verdict_of
told (Ok tt) = refl
told (Err Empty) = refl
told (Err Overlong) = refl
told (Err Key) = refl
told (Err Unfinished) = refl
told (Err Surplus) = refl
told (Err Spent) = refl
told (Err NoSpace) = refl
told (Err Short) = refl
told (Err Kind) = refl
told (Err Misfit) = refl
told (Err OtherPassage) = refl
told (Err Full) = refl
told (Err NameTaken) = refl
told (Err NameAbsent) = refl
told (Err NoTrack) = refl
told (Err Broken) = refl
told (Err OutsideBells) = refl
told (Err TooWide) = refl

pub number-injective : (v u : Result (Unit {0}) Refusal) → number v ≡ number u → v ≡ u
number-injective v u e = sym (told v) ∙ ap verdict_of e ∙ told u

-- a refusal's number is not 0
refusal-positive : (r : Refusal) → refusal_number r ≡ 0 → ⊥
refusal-positive r z =
    let w : ◌≡◌ {A = Result (Unit {0}) Refusal} (Err r) (Ok tt) = number-injective (Err r) (Ok tt) z in cc

pub refused-some : {A : Type 0} {v : Result A Refusal} {r : Refusal} → v ≡ Err r → number v ≡ 0 → ⊥
refused-some {A} {v} {r} e z = refusal-positive r (rw e at z)
