-- Taking off and entering, case by case: how many are held, and whether the newcomer's gap is the step; and how long a stage is quiet.
-- Assumes nothing.
use Prim.Native.Nat.{ℕ, suc, ◌+◌, ◌-◌, ◌≤◌, ◌<◌}
use mathlib.Core.Path.{◌≡◌}
use mathlib.Core.Bool.{true, false}
use native.Mathlib.Omega.{arith}
use lib.Dec.{leb, ltb, eqb}
use borrow.Author.Tests.{ltb-true, leb-true, eqb-false, eq-eqb, ne_eqb, lt-ltb, le-leb, lt-leb}
use Rattle.fingerprint.specs.declared.Key.{Key}
use Rattle.lists.proofs.Cases.{by-test}
use Rattle.lists.proofs.Laws.{and_left, and_right}
use Rattle.stage.specs.declared.Mark.{Mark}
use Rattle.stage.specs.declared.Stage.{Stage}
use Rattle.std.specs.Prelude.{Some, None}
use Rattle.stage.specs.Stage.{max_taken, max_count, no_stage, same_gap, gap_to, forward, alone, taken_off, entered, all_but_last, take_off_of, can_enter, entry_of, quiet_until}

module _ (key : Key) (s : Stage) where
  abbrev second : ℕ
  second = s.first.at + s.step.length

  pub off_few : s.held ≤ 1 → take_off_of key s ≡ no_stage
  unfolding take_off_of taken_off
  off_few h =
      by-test (eqb s.held 0) (λ e. rw e)
      (λ e.
      let one : s.held ≡ 1 = omega (arith, eqb-false s.held 0 e) in
      rw (e, eq-eqb s.held 1 one) (by-test (leb second max_taken) (λ f. rw f) (λ f. rw f)))

  pub off_past : (s.held ≡ 0 → ⊥) → max_taken < second → take_off_of key s ≡ no_stage
  unfolding take_off_of
  off_past n h = rw (ne_eqb s.held 0 n, lt-leb second max_taken h)

  module _ (room : second ≤ max_taken) where
    pub off_two : s.held ≡ 2 → take_off_of key s ≡ alone s.last
    unfolding take_off_of taken_off
    off_two e = rw (e, le-leb second max_taken room)

    pub off_more :
        2 < s.held
        → take_off_of key s
        ≡ record { held = s.held - 1; first = forward key s.first s.step; last = s.last; step = s.step }
    unfolding take_off_of taken_off
    off_more h =
        rw (
          ne_eqb s.held 0 (omega arith),
          ne_eqb s.held 1 (omega arith),
          ne_eqb s.held 2 (omega arith),
          le-leb second max_taken room,
        )

module _ (key : Key) (s : Stage) (new : Mark) where
  pub enter_none : s.held ≡ 0 → entry_of key s new ≡ record { stage = alone new; aside = None }
  unfolding entry_of entered
  enter_none e = rw e

  pub enter_full : can_enter s new ≡ false → entry_of key s new ≡ record { stage = no_stage; aside = None }
  unfolding entry_of
  enter_full e = rw e

  -- what is left of a stage whose last start and newcomer remain
  abbrev pair : Stage
  pair = record { held = 2; first = s.last; last = new; step = gap_to key s.last new }

  -- whether one start more can be counted and the gap to it said
  pub entering : (s.held ≡ 0 → ⊥) → can_enter s new ≡ true → (s.held < max_count) × (new.at - s.last.at ≤ max_count)
  entering n e =
      let both = rw (ne_eqb s.held 0 n) at e in (
        ltb-true s.held max_count (and_left (ltb s.held max_count) _ both),
        leb-true (new.at - s.last.at) max_count (and_right (ltb s.held max_count) _ both),
      )

  pub can-enter : s.held < max_count → new.at - s.last.at ≤ max_count → can_enter s new ≡ true
  can-enter h g =
      by-test (eqb s.held 0) (λ e. rw e)
      (λ e. rw (e, lt-ltb s.held max_count h, le-leb (new.at - s.last.at) max_count g))

  pub enter_second :
      s.held ≡ 1 → new.at - s.last.at ≤ max_count → entry_of key s new ≡ record { stage = pair; aside = None }
  unfolding entry_of entered
  enter_second e g = rw (can-enter (omega arith) g, e)

  module _ (two : 2 ≤ s.held) (room : s.held < max_count) (near : new.at - s.last.at ≤ max_count) where
    pub enter_longer :
        same_gap (gap_to key s.last new) s.step ≡ true
        → entry_of key s new
        ≡ record {
          stage = record { held = suc s.held; first = s.first; last = new; step = s.step };
          aside = None;
        }
    unfolding entry_of entered
    enter_longer e =
        rw (
          can-enter room near,
          ne_eqb s.held 0 (omega arith),
          ne_eqb s.held 1 (omega arith),
          lt-ltb 1 s.held two,
          e,
        )

    pub enter_aside :
        same_gap (gap_to key s.last new) s.step ≡ false
        → entry_of key s new ≡ record { stage = pair; aside = Some (all_but_last s) }
    unfolding entry_of entered
    enter_aside e =
        rw (
          can-enter room near,
          ne_eqb s.held 0 (omega arith),
          ne_eqb s.held 1 (omega arith),
          lt-ltb 1 s.held two,
          e,
        )

-- A stage is quiet no longer than asked for, and not when its first start is ripe.
module _ (length until : ℕ) (s : Stage) where
  pub quiet-most : quiet_until length until s ≤ until
  quiet-most = by-test (eqb s.held 0) (λ e. rw e (omega arith)) (λ e. rw e (omega arith))

  pub quiet-before : 1 ≤ length → (s.held ≡ 0 → ⊥) → quiet_until length until s < s.first.at + length
  quiet-before l n = rw (ne_eqb s.held 0 n) (omega arith)
