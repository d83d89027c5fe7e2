-- What visiting a stage makes of the walk, and how far the answer grows.
-- Assumes nothing.
use Prim.Native.Nat.{ℕ, suc, ◌≤◌}
use mathlib.Core.Path.{◌≡◌, refl}
use mathlib.Core.Logic.{◌⊎◌, inl, inr}
use mathlib.Core.Bool.{Bool, true, false, cond}
use native.Mathlib.Omega.{arith}
use borrow.Author.Tests.{eqb-false}
use lib.Dec.{eqb}
use Rattle.fingerprint.specs.declared.Key.{Key}
use Rattle.ladder.specs.Prefix.{levels}
use Rattle.lists.proofs.Cases.{by-test}
use Rattle.stage.specs.declared.Mark.{Mark}
use Rattle.stage.specs.declared.Stage.{Stage}
use Rattle.stage.specs.declared.Progression.{Progression}
use Rattle.std.specs.Prelude.{Some, None}
use Rattle.stage.specs.Stage.{taken_off, entered, sets_aside, all_but_last}
use Rattle.stage.specs.Stages.{Whole, stage_at, with_stage}
use Rattle.stage.proofs.Stages.{whole_with}
use Rattle.walk.specs.declared.Answer.{Answer}
use Rattle.walk.specs.declared.Round.{Round}
use Rattle.walk.specs.declared.Walk.{Walk}
use Rattle.walk.specs.Walk.{with_set, with_aside, compared, ripe, matches, promoted, promoted_under, tried, visited}

-- what entering set aside, put into the answer
pub with_aside_lem : (b : Bool) (x : Progression) (a : Answer) → with_aside (cond b (Some x) None) a ≡ cond b (with_set x a) a
with_aside_lem true x a = refl
with_aside_lem false x a = refl

-- the walk once the start of stage i is taken off and compared
abbrev pub off : Key → ℕ → Walk → Walk
off key i w =
    record { stages = with_stage w.stages i (taken_off key (stage_at w.stages i)); answer = compared w.answer }

pub visit-unripe : (c : Round) (i : ℕ) (w : Walk) → ripe c i (stage_at w.stages i) ≡ false → visited c i w ≡ w
unfolding visited
visit-unripe c i w e = rw e

-- A comparison changes no stage, or a start enters stage i.
pub tried-stages :
    (c : Round) (i : ℕ) (start : Mark) (w : Walk)
    → ((tried c i start w).stages ≡ w.stages)
    ⊎ ((i ≡ levels c.signature.length → ⊥)
    × ((tried c i start w).stages ≡ with_stage w.stages i (entered c.signature.key (stage_at w.stages i) start)))
unfolding tried promoted_under
tried-stages c i start w =
    by-test (matches c i start)
    (λ e.
    by-test (eqb i (levels c.signature.length))
    (λ f. inl (rw (e, tried, f, promoted)))
    (λ f. inr (eqb-false _ _ f, rw (e, tried, f, promoted))))
    (λ e. inl (rw (e, tried)))

-- Where P_i was compared, the stages are whole as they were, and at most one set was set aside, none where the start rang.
pub record Grows (k i : ℕ) (w r : Walk) : Type 0 where
  pub whole : Whole w.stages → Whole r.stages
  pub asides : r.answer.asides ≤ suc w.answer.asides
  pub rung : i ≡ k → r.answer.asides ≡ w.answer.asides

with-few : (b : Bool) (x : Progression) (a : Answer) → (cond b (with_set x a) a).asides ≤ suc a.asides
with-few true x a = omega arith
with-few false x a = omega arith

module _ (c : Round) where
  abbrev top : ℕ
  top = levels c.signature.length

  grows_none : (i : ℕ) (w : Walk) → Grows top i w w
  grows_none i w = record { whole = λ h. h; asides = omega arith; rung = λ e. refl }

  promoted-grows : (i : ℕ) (start : Mark) (w : Walk) → Grows top i w (promoted c i start w)
  unfolding promoted_under
  promoted-grows i start w =
      let s : Stage = stage_at w.stages i in
      by-test (eqb i top)
      (λ e. rw (e, promoted) (record { whole = λ h. h; asides = omega arith; rung = λ q. refl }))
      (λ e. rw (e, promoted)
      (record {
        whole = whole_with w.stages i _;
        asides = with-few (sets_aside c.signature.key s start) (all_but_last s) w.answer;
        rung = λ q. absurd (eqb-false i top e q);
      }))

  tried-grows : (i : ℕ) (start : Mark) (w : Walk) → Grows top i w (tried c i start w)
  unfolding tried
  tried-grows i start w =
      by-test (matches c i start)
      (λ e. rw (e, tried)
      (let q = promoted-grows i start (record { stages = w.stages; answer = compared w.answer }) in
      record { whole = q.whole; asides = q.asides; rung = q.rung }))
      (λ e. rw (e, tried) (record { whole = λ h. h; asides = omega arith; rung = λ q. refl }))

  pub visited-grows : (i : ℕ) (w : Walk) → Grows top (suc i) w (visited c i w)
  unfolding visited
  visited-grows i w =
      by-test (ripe c i (stage_at w.stages i))
      (λ e. rw (e, visited)
      (let q = tried-grows (suc i) (stage_at w.stages i).first (record { stages = (off c.signature.key i w).stages; answer = w.answer }) in
      record { whole = λ h. q.whole (whole_with w.stages i _ h); asides = q.asides; rung = q.rung }))
      (λ e. rw (e, visited) (grows_none (suc i) w))
