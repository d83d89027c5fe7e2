-- A stage that fits by document 01's rules at t fits so at t + 1, once its ripe start was taken off and with a newcomer of the right age.
-- Assumes nothing.
use Prim.Native.Nat.{ℕ, suc, ◌+◌, ◌-◌, ◌*◌, ◌≤◌, ◌<◌}
use mathlib.Core.Path.{◌≡◌, refl, ◌∙◌, ap}
use mathlib.Core.Bool.{true}
use native.Mathlib.Omega.{arith}
use lib.Dec.{eqb}
use borrow.Author.Tests.{eqb-true, eqb-false, ne_eqb}
use Rattle.fingerprint.specs.declared.Key.{Key}
use Rattle.fingerprint.specs.Fingerprint.{Below}
use Rattle.fingerprint.proofs.Laws.{joined-below, rest_below}
use Rattle.ladder.specs.Prefix.{levels, prefix_length}
use Rattle.ladder.proofs.Levels.{length-rises}
use Rattle.lists.proofs.Laws.{and_left}
use Rattle.stage.specs.declared.Mark.{Mark}
use Rattle.stage.specs.declared.Stage.{Stage}
use Rattle.stage.specs.Stage.{same_gap}
use Rattle.stage.specs.Stage.{alone, gap_to, taken_off, entered}
use Rattle.lists.proofs.Cases.{by-test}
use Rattle.stage.proofs.Fit.{Aged, Many, Fit, idle, single, several}

module _ (m i : ℕ) (s : Stage) where
  -- another age, for all starts from the first on
  fit-aged :
      (lo hi lo' hi' : ℕ)
      → ((s.held ≡ 0 → ⊥)
      → Aged m i lo hi s.first.at
      → (start : ℕ)
      → s.first.at ≤ start
      → Aged m i lo hi start
      → Aged m i lo' hi' start)
      → Fit m i lo hi s
      → Fit m i lo' hi' s
  fit-aged lo hi lo' hi' f (idle e) = idle e
  fit-aged lo hi lo' hi' f (single q) =
      single (record {
        below = q.below;
        shape = q.shape;
        print = q.print;
        aged = f (omega (arith, ap (λ (u : Stage). u.held) q.shape)) q.aged _ (omega arith) q.aged;
      })
  fit-aged lo hi lo' hi' f (several q) =
      several (record {
        below = q.below;
        more = q.more;
        held = q.held;
        first-print = q.first-print;
        last-print = q.last-print;
        step-print = q.step-print;
        first-aged = f (omega arith) q.first-aged _ (omega arith) q.first-aged;
        last-aged = f (omega arith) q.first-aged _ (omega arith) q.last-aged;
        moves = q.moves;
        ends = q.ends;
      })

module _ (m i t : ℕ) (s : Stage) where
  -- With the next byte the starts grow older.
  pub fit-later : Fit m i t (suc t) s → Fit m i (suc t) (suc t) s
  fit-later = fit-aged m i s t (suc t) (suc t) (suc t) (λ n a start l b. omega arith)

  -- If the first is not ripe, none is.
  pub fit-unripe :
      ((s.held ≡ 0 → ⊥) → s.first.at + prefix_length m (suc i) ≡ suc t → ⊥) → Fit m i t t s → Fit m i t (suc t) s
  fit-unripe f = fit-aged m i s t t t (suc t) (λ n a start l b. omega (arith, f n))

  -- The ripe first is taken off.
  pub fit-off :
      (key : Key)
      → (s.held ≡ 0 → ⊥)
      → s.first.at + prefix_length m (suc i) ≡ suc t
      → Fit m i t t s
      → Fit m i t (suc t) (taken_off key s)
  unfolding taken_off
  fit-off key n r (idle e) = absurd (n (ap (λ (u : Stage). u.held) e))
  fit-off key n r (single q) = rw q.shape (idle refl)
  fit-off key n r (several q) =
      by-test (eqb s.held 2)
      (λ e.
      let two : s.held ≡ 2 = eqb-true _ _ e in
      let zero_more : q.more ≡ 0 = omega arith in
      let ends : s.last.at ≡ s.first.at + s.step.length = rw zero_more at q.ends ∙ omega arith in
      rw (ne_eqb s.held 1 (omega arith), e, taken_off)
      (single (record { below = q.below; shape = refl; print = q.last-print; aged = omega arith })))
      (λ e.
      let three : s.held ≡ 2 → ⊥ = eqb-false _ _ e in
      let ends : s.last.at ≡ s.first.at + suc (suc (q.more - 1)) * s.step.length =
      q.ends ∙ ap (λ n. s.first.at + suc n * s.step.length) (omega arith)
      in
      rw (ne_eqb s.held 1 (omega arith), e, taken_off)
      (several (record {
        below = q.below;
        more = q.more - 1;
        held = omega arith;
        first-print = joined-below key _ _ _;
        last-print = q.last-print;
        step-print = q.step-print;
        first-aged = omega arith;
        last-aged = omega arith;
        moves = q.moves;
        ends = omega arith;
      })))

  -- A newcomer of the right age enters: alone, behind a start that is kept alone, or at the end of the progression.
  module _ (key : Key) (new : Mark) (below : i < levels m) (due : new.at + prefix_length m i ≡ suc t) (print : Below new.print) where
    fit-alone : Fit m i (suc t) (suc t) (alone new)
    fit-alone =
        single (record { below = below; shape = refl; print = print; aged = omega (arith, length-rises m i below) })

    fit-pair :
        Below s.last.print
        → Aged m i t (suc t) s.last.at
        → Fit m i (suc t) (suc t) (record { held = 2; first = s.last; last = new; step = gap_to key s.last new })
    fit-pair l a =
        several (record {
          below = below;
          more = 0;
          held = refl;
          first-print = l;
          last-print = print;
          step-print = rest_below key _ _ _;
          first-aged = omega arith;
          last-aged = omega (arith, length-rises m i below);
          moves = omega arith;
          ends = omega arith;
        })

    fit-longer :
        Many m i t (suc t) s
        → same_gap (gap_to key s.last new) s.step ≡ true
        → Fit m i (suc t) (suc t) (record { held = suc s.held; first = s.first; last = new; step = s.step })
    fit-longer q e =
        let gap : new.at - s.last.at ≡ s.step.length = eqb-true _ _ (and_left _ _ e) in
        several (record {
          below = below;
          more = suc q.more;
          held = omega arith;
          first-print = q.first-print;
          last-print = print;
          step-print = q.step-print;
          first-aged = omega arith;
          last-aged = omega (arith, length-rises m i below);
          moves = q.moves;
          ends = omega arith;
        })

    pub fit-entered : Fit m i t (suc t) s → Fit m i (suc t) (suc t) (entered key s new)
    unfolding entered
    fit-entered (idle e) = rw (ap (λ (u : Stage). u.held) e, entered) fit-alone
    fit-entered (single q) =
        let last : s.last ≡ s.first = ap (λ (u : Stage). u.last) q.shape in
        rw (ap (λ (u : Stage). u.held) q.shape, entered) (fit-pair (rw last q.print) (rw last q.aged))
    fit-entered (several q) =
        rw (ne_eqb s.held 0 (omega arith), ne_eqb s.held 1 (omega arith), entered)
        (by-test (same_gap (gap_to key s.last new) s.step)
        (λ e. rw e (fit-longer q e))
        (λ e. rw e (fit-pair q.last-print q.last-aged)))
