-- With the powers of the card's key, and stages that fit, the walk that `climb` makes is the walk of document 01.
-- Assumes nothing.
use Prim.Native.Nat.{ℕ, zero, suc, ◌+◌, ◌-◌, ◌≤◌, ◌<◌}
use mathlib.Core.Path.{◌≡◌, refl, ◌∙◌, ap}
use mathlib.Core.Bool.{true, not}
use mathlib.Core.List.{List}
use native.Mathlib.Omega.{arith}
use lib.Dec.{eqb}
use lib.ListN.{get_or}
use borrow.Author.Tests.{eqb-true, eqb-false, not-true, le-leb}
use Rattle.fingerprint.specs.declared.Fingerprint.{Fingerprint}
use Rattle.fingerprint.specs.declared.Power.{Power}
use Rattle.fingerprint.specs.Fingerprint.{same, empty, power, no_power}
use Rattle.fingerprint.proofs.Laws.{rest-by}
use Rattle.ladder.specs.Prefix.{levels, prefix_length}
use Rattle.ladder.proofs.Levels.{levels-bound, first-length}
use Rattle.lists.proofs.Laws.{every-at, and_left, and_right}
use Rattle.lists.proofs.Cases.{by-test}
use Rattle.powers.specs.Powers.{Shifts}
use Rattle.signature.specs.Signature.{max_length}
use Rattle.stage.specs.declared.Mark.{Mark}
use Rattle.stage.specs.declared.Stage.{Stage}
use Rattle.stage.specs.Stage.{max_taken, taken_off, take_off_of, can_enter}
use Rattle.stage.specs.Stages.{stage_count, Stages, stage_at, with_stage, shapes_fit}
use Rattle.stage.proofs.Fit.{fit_of}
use Rattle.stage.proofs.Room.{take-off-fits, fit-can-enter, enter-room}
use Rattle.stage.proofs.Stages.{stage-with-other}
use Rattle.walk.specs.declared.Round.{Round}
use Rattle.walk.specs.declared.Walk.{Walk}
use Rattle.walk.specs.Walk.{no_answer, matches, promoted_under, tried, ripe, visited, descended, walked_from}
use Rattle.walk.specs.Climb.{promoted_by, matches_by, tried_by, visited_by, descended_by, walked_by}
use Rattle.walk.proofs.Visits.{with_aside_lem}
use Rattle.walk.proofs.Midway.{Midway, midway-begin, visited-midway}

module _ (shifts : List Power) (c : Round) where
  abbrev m : ℕ
  m = c.signature.length

  abbrev k : ℕ
  k = levels m

  -- the block of a start is cut out by the power of its length
  matches-same :
      (i : ℕ) (start : Mark)
      → get_or shifts i no_power ≡ power c.signature.key (c.now.at - start.at)
      → matches_by shifts c i start ≡ matches c i start
  matches-same i start e =
      ap (λ (f : Fingerprint). same f (get_or c.signature.prints i empty))
      (rw e (rest-by c.signature.key c.now.print start.print (c.now.at - start.at)))

  -- a start rings, or enters a stage that has room
  promoted-same :
      (i : ℕ) (start : Mark) (w : Walk)
      → ((i ≡ k → ⊥) → can_enter (stage_at w.stages i) start ≡ true)
      → promoted_by c.signature.key k i start w ≡ promoted_under c.signature.key k i start w
  unfolding promoted_by promoted_under
  promoted-same i start w enters =
      by-test (eqb i k) (λ e. rw e)
      (λ e. rw (e, enter-room c.signature.key (stage_at w.stages i) start (enters (eqb-false i k e)), with_aside_lem))

  tried_same :
      (i : ℕ) (start : Mark) (w : Walk)
      → get_or shifts i no_power ≡ power c.signature.key (c.now.at - start.at)
      → ((i ≡ k → ⊥) → can_enter (stage_at w.stages i) start ≡ true)
      → tried_by shifts c i start w ≡ tried c i start w
  unfolding tried_by tried
  tried_same i start w e enters = rw (matches-same i start e, promoted-same i start _ enters)

  module _ (table : Shifts c.signature.key m shifts) (short : m ≤ max_length) (t : ℕ) (now : c.now.at ≡ suc t)
      (late : t ≤ max_taken) where
    few : k ≤ stage_count
    few = levels-bound m short

    module _ (i : ℕ) (w : Walk) (l : i < k) (q : Midway m t (suc i) w.stages) where
      abbrev s : Stage
      s = stage_at w.stages i

      ripe-same :
          ripe c i s ≡ true
          → tried_by shifts c (suc i) s.first
          (record { stages = with_stage w.stages i (take_off_of c.signature.key s); answer = w.answer })
          ≡ tried c (suc i) s.first
          (record { stages = with_stage w.stages i (taken_off c.signature.key s); answer = w.answer })
      ripe-same e =
          let held : s.held ≡ 0 → ⊥ = eqb-false _ _ (not-true _ (and_left _ _ e)) in
          let age : s.first.at + prefix_length m (suc i) ≡ c.now.at =
          eqb-true (s.first.at + prefix_length m (suc i)) c.now.at (and_right (not (eqb s.held 0)) _ e)
          in
          let off : take_off_of c.signature.key s ≡ taken_off c.signature.key s =
          take-off-fits m i t t s (omega arith) c.signature.key late held (q.below i (omega arith) (omega (arith, few)))
          in
          rw off
          (tried_same (suc i) s.first _ (table (suc i) l ∙ ap (power c.signature.key) (omega (arith, age)))
          (λ n.
          rw (stage-with-other w.stages i (taken_off c.signature.key s) (suc i) (omega arith))
          (fit-can-enter m (suc i) t (suc t) _ (omega arith) c.signature.key short s.first (omega (arith, age, now))
          (q.here (omega (arith, few, n))))))

      visited-same : visited_by shifts c i w ≡ visited c i w
      unfolding visited_by visited
      visited-same = by-test (ripe c i s) (λ e. rw e (ripe-same e)) (λ e. rw e)

    -- and one stage after another, down to the lowest
    descended-same :
        (i : ℕ) (w : Walk)
        → i ≤ k
        → Midway m t i w.stages
        → (descended_by shifts c i w ≡ descended c i w) × Midway m t 0 (descended c i w).stages
    unfolding descended_by descended
    descended-same zero w l q = (refl, q)
    descended-same (suc i) w l q =
        let rest =
        descended-same i (visited c i w) (omega arith) (visited-midway c t now i w l (omega (arith, few)) q)
        in
        (ap (descended_by shifts c i) (visited-same i w l q) ∙ rest.0, rest.1)

pub climbs :
    (shifts : List Power) (c : Round) (start : Mark) (stages : Stages)
    → Shifts c.signature.key c.signature.length shifts
    → 1 ≤ c.signature.length
    → c.signature.length ≤ max_length
    → c.now.at ≡ suc start.at
    → start.at ≤ max_taken
    → shapes_fit c.signature.length start.at stages ≡ true
    → walked_by shifts c start stages ≡ walked_from c start stages
unfolding walked_by walked_from
climbs shifts c start stages table long short now late fits =
    let size : ℕ = c.signature.length in
    let begin : Walk = record { stages = stages; answer = no_answer } in
    let down =
    descended-same shifts c table short start.at now late (levels size) begin (omega arith)
    (midway-begin size start.at stages (λ i l. fit_of size i _ _ (every-at _ stage_count fits i l)))
    in
    rw (le-leb size max_length short, down.0)
    (tried_same shifts c 0 start _
    (table 0 (omega arith) ∙ ap (power c.signature.key) (omega (arith, now, first-length size long)))
    (λ n.
    fit-can-enter size 0 start.at (suc start.at) _ (omega arith) c.signature.key short start (omega arith)
    (down.1.here (omega arith))))
