-- In a stage that fits the numbers leave room: its first start can be taken off, and one more can enter.
-- Assumes nothing.
use Prim.Native.Nat.{ℕ, suc, ◌+◌, ◌-◌, ◌≤◌}
use mathlib.Core.Path.{◌≡◌, sym, ◌∙◌, ap}
use mathlib.Core.Bool.{true}
use native.Mathlib.Nat.{le-mul_of_pos_right}
use native.Mathlib.Omega.{arith}
use lib.Dec.{eqb}
use borrow.Author.Tests.{eqb-false, ne_eqb, le-leb}
use Rattle.fingerprint.specs.declared.Key.{Key}
use Rattle.ladder.proofs.Levels.{length-within}
use Rattle.lists.proofs.Cases.{by-test}
use Rattle.signature.specs.Signature.{max_length}
use Rattle.stage.specs.declared.Mark.{Mark}
use Rattle.stage.specs.declared.Stage.{Stage}
use Rattle.stage.specs.Stage.{max_taken, taken_off, entered, aside_of, take_off_of, can_enter, entry_of}
use Rattle.stage.proofs.Fit.{Fit, idle, single, several, Many}
use Rattle.stage.proofs.Moves.{off_few, can-enter}

module _ (m i lo hi : ℕ) (s : Stage) (in_order : lo ≤ hi) where
  few-many : Many m i lo hi s → s.held ≤ suc m
  few-many q =
      omega (
        arith,
        q.held,
        q.ends,
        q.last-aged.old,
        q.first-aged.young,
        le-mul_of_pos_right {m = s.step.length} (suc q.more) q.moves,
        length-within m (suc i),
      )

  -- few starts are held
  pub fit-few : Fit m i lo hi s → s.held ≤ suc m
  fit-few (idle e) = rw e (omega arith)
  fit-few (single q) = rw q.shape (omega arith)
  fit-few (several q) = few-many q

  -- the second is no later than now
  pub fit-second : Fit m i lo hi s → 2 ≤ s.held → s.first.at + s.step.length ≤ lo
  fit-second (idle e) h = absurd (omega (arith, ap (λ (u : Stage). u.held) e))
  fit-second (single q) h = absurd (omega (arith, ap (λ (u : Stage). u.held) q.shape))
  fit-second (several q) h = omega (arith, q.ends, q.last-aged.old)

  -- What the calls answer for a stage that fits.
  pub take-off-fits :
      (key : Key) → lo ≤ max_taken → (s.held ≡ 0 → ⊥) → Fit m i lo hi s → take_off_of key s ≡ taken_off key s
  unfolding take_off_of taken_off
  take-off-fits key l n (idle e) = absurd (n (ap (λ (u : Stage). u.held) e))
  take-off-fits key l n (single q) =
      off_few key s (omega (arith, ap (λ (u : Stage). u.held) q.shape)) ∙ sym (rw (ap (λ (u : Stage). u.held) q.shape, taken_off))
  take-off-fits key l n (several q) =
      rw (
        ne_eqb s.held 0 n,
        le-leb (s.first.at + s.step.length) max_taken (omega (arith, fit-second (several q) (omega arith))),
      )

  -- the last is near
  pub fit-near : (new : Mark) → new.at ≤ hi → (s.held ≡ 0 → ⊥) → Fit m i lo hi s → new.at - s.last.at ≤ m
  fit-near new h n (idle e) = absurd (n (ap (λ (u : Stage). u.held) e))
  fit-near new h n (single q) =
      let last : s.last.at ≡ s.first.at = ap (λ (u : Stage). u.last.at) q.shape in
      omega (arith, q.aged.young, length-within m (suc i))
  fit-near new h n (several q) = omega (arith, q.last-aged.young, length-within m (suc i))

  pub fit-can-enter : (key : Key) → m ≤ max_length → (new : Mark) → new.at ≤ hi → Fit m i lo hi s → can_enter s new ≡ true
  fit-can-enter key l new h q =
      by-test (eqb s.held 0) (λ e. rw e)
      (λ e.
      can-enter key s new (omega (arith, fit-few q)) (omega (arith, fit-near new h (eqb-false s.held 0 e) q)))

-- What entering a stage with room answers.
pub enter-room :
    (key : Key) (s : Stage) (new : Mark)
    → can_enter s new ≡ true
    → entry_of key s new ≡ record { stage = entered key s new; aside = aside_of key s new }
unfolding entry_of
enter-room key s new e = rw e
