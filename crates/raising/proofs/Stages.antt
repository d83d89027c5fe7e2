-- Raised stages: a start is taken off, enters and is ripe as in the stage itself.
-- Assumes nothing.
use Prim.Native.Nat.{ℕ, suc, ◌+◌, ◌-◌, ◌≤◌}
use mathlib.Core.Path.{◌≡◌, refl, sym, ◌∙◌, ap}
use mathlib.Core.Bool.{Bool, cond, not, ◌&&◌}
use native.Mathlib.Omega.{arith}
use lib.Dec.{eqb, ltb}
use borrow.Author.Tests.{eqb-true, eqb-false, eq-eqb, ne_eqb}
use Rattle.fingerprint.specs.declared.Key.{Key}
use Rattle.lists.proofs.Cases.{by-test}
use Rattle.stage.specs.declared.Mark.{Mark}
use Rattle.stage.specs.declared.Gap.{Gap}
use Rattle.stage.specs.declared.Stage.{Stage}
use Rattle.stage.specs.Stage.{same_gap, gap_to, taken_off, entered, sets_aside, all_but_last, ripe_at}
use Rattle.raising.specs.Raised.{raised_mark, raised_stage, raised_set}
use Rattle.raising.proofs.Marks.{gap-raised, forward-raised}

-- two tests of numbers that are raised alike
same_test : (a b a' b' : ℕ) → (a ≡ b → a' ≡ b') → (a' ≡ b' → a ≡ b) → eqb a b ≡ eqb a' b'
same_test a b a' b' f g =
    by-test (eqb a b) (λ e. rw (e, eq-eqb a' b' (f (eqb-true a b e)))) (λ e. rw (e, ne_eqb a' b' (λ h. eqb-false a b e (g h))))

module _ (key : Key) (base : Mark) where
  abbrev up : Mark → Mark
  up = raised_mark key base

  abbrev lifted : Stage → Stage
  lifted s = record { held = s.held; first = up s.first; last = up s.last; step = s.step }

  pub raised-none : (s : Stage) → s.held ≡ 0 → raised_stage key base s ≡ s
  unfolding raised_stage
  raised-none s e = rw (eq-eqb s.held 0 e)

  pub raised-some : (s : Stage) → (s.held ≡ 0 → ⊥) → raised_stage key base s ≡ lifted s
  unfolding raised_stage
  raised-some s n = rw (ne_eqb s.held 0 n)

  pub taken-raised : (s : Stage) → (s.held ≡ 0 → ⊥) → taken_off key (raised_stage key base s) ≡ raised_stage key base (taken_off key s)
  unfolding taken_off raised_stage
  taken-raised s n =
      rw (ne_eqb s.held 0 n)
      (by-test (eqb s.held 1) (λ e. rw e)
      (λ e. by-test (eqb s.held 2)
      (λ f. rw (e, f))
      (λ f. rw (e, f, forward-raised key base s.first s.step, ne_eqb (s.held - 1) 0 (omega (arith, eqb-false s.held 1 e))))))

  -- what becomes of a stage that lists a start, by the newcomer's gap
  with-gap : Gap → Stage → Mark → Stage
  with-gap g s new =
      cond (not (eqb s.held 1) && same_gap g s.step)
      (record { held = suc s.held; first = s.first; last = new; step = s.step })
      (record { held = 2; first = s.last; last = new; step = g })

  entered-some : (s : Stage) (new : Mark) → (s.held ≡ 0 → ⊥) → entered key s new ≡ with-gap (gap_to key s.last new) s new
  unfolding entered with-gap
  entered-some s new n = rw (ne_eqb s.held 0 n)

  gap-lifted : (g : Gap) (s : Stage) (new : Mark) → with-gap g (lifted s) (up new) ≡ raised_stage key base (with-gap g s new)
  unfolding with-gap raised_stage
  gap-lifted g s new =
      by-test (not (eqb s.held 1) && same_gap g s.step) (λ f. rw (f, ne_eqb (suc s.held) 0 (omega arith))) (λ f. rw f)

  sets-by : Gap → Stage → Bool
  sets-by g s = ltb 1 s.held && not (same_gap g s.step)

  sets-some : (s : Stage) (new : Mark) → sets_aside key s new ≡ sets-by (gap_to key s.last new) s
  unfolding sets-by
  sets-some s new = refl

  module _ (s : Stage) (new : Mark) (before : (s.held ≡ 0 → ⊥) → s.last.at ≤ new.at) where
    entered-none : s.held ≡ 0 → entered key (raised_stage key base s) (up new) ≡ raised_stage key base (entered key s new)
    unfolding entered raised_stage
    entered-none e = rw e

    entered-listed : (s.held ≡ 0 → ⊥) → entered key (raised_stage key base s) (up new) ≡ raised_stage key base (entered key s new)
    entered-listed n =
        ap (λ (u : Stage). entered key u (up new)) (raised-some s n)
        ∙ entered-some (lifted s) (up new) n
        ∙ ap (λ (g : Gap). with-gap g (lifted s) (up new)) (gap-raised key base s.last new (before n))
        ∙ gap-lifted (gap_to key s.last new) s new
        ∙ ap (raised_stage key base) (sym (entered-some s new n))

    pub entered-raised : entered key (raised_stage key base s) (up new) ≡ raised_stage key base (entered key s new)
    entered-raised =
        by-test (eqb s.held 0) (λ e. entered-none (eqb-true s.held 0 e)) (λ e. entered-listed (eqb-false s.held 0 e))

    lifted-sets : (g : Gap) → sets-by g (lifted s) ≡ sets-by g s
    unfolding sets-by
    lifted-sets g = refl

    pub sets-raised : sets_aside key (raised_stage key base s) (up new) ≡ sets_aside key s new
    sets-raised =
        by-test (eqb s.held 0)
        (λ e. ap (λ (u : Stage). sets_aside key u (up new)) (raised-none s (eqb-true s.held 0 e)) ∙ rw (eqb-true s.held 0 e))
        (λ e. let n = eqb-false s.held 0 e in
        ap (λ (u : Stage). sets_aside key u (up new)) (raised-some s n)
        ∙ sets-some (lifted s) (up new)
        ∙ ap (λ (g : Gap). sets-by g (lifted s)) (gap-raised key base s.last new (before n))
        ∙ lifted-sets (gap_to key s.last new)
        ∙ sym (sets-some s new))

  pub aside-raised : (s : Stage) → (s.held ≡ 0 → ⊥) → all_but_last (raised_stage key base s) ≡ raised_set base.at (all_but_last s)
  aside-raised s n = rw (raised-some s n)

  pub ripe-raised : (n t : ℕ) (s : Stage) → ripe_at n (base.at + t) (raised_stage key base s) ≡ ripe_at n t s
  unfolding raised_stage
  ripe-raised n t s =
      by-test (eqb s.held 0) (λ e. rw (e, e))
      (λ e. rw (e, e) (same_test (base.at + s.first.at + n) (base.at + t) (s.first.at + n) t (λ h. omega arith) (λ h. omega arith)))
