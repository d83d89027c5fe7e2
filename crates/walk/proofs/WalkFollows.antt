-- In each stage F_last comes out of F_first by joins of the step print after a byte, if it did before (document 02, A.7).
-- Assumes nothing.
use Prim.Native.Nat.{ℕ, zero, suc, ◌≤◌, ◌<◌}
use mathlib.Core.Logic.{inl, inr}
use native.Mathlib.Decide.{ℕ_discrete}
use native.Mathlib.Omega.{arith}
use borrow.Author.Tests.{eqb-false, not-true}
use Rattle.fingerprint.specs.declared.Key.{Key}
use Rattle.fingerprint.specs.Fingerprint.{Below}
use Rattle.ladder.specs.Prefix.{levels}
use Rattle.ladder.proofs.Levels.{levels-bound}
use Rattle.lists.proofs.Laws.{and_left}
use Rattle.lists.proofs.Cases.{by-test}
use Rattle.signature.specs.Signature.{max_length}
use Rattle.stage.specs.declared.Mark.{Mark}
use Rattle.stage.specs.declared.Stage.{Stage}
use Rattle.stage.specs.Stages.{stage_count, Stages, stage_at, with_stage}
use Rattle.stage.proofs.Follows.{Follows, follows-none, follows-off, follows-entered}
use Rattle.stage.proofs.Stages.{stage-with, stage-with-other}
use Rattle.walk.specs.declared.Round.{Round}
use Rattle.walk.specs.declared.Walk.{Walk}
use Rattle.walk.specs.Walk.{no_answer, ripe, tried, visited, descended, walked_from}
use Rattle.walk.proofs.Visits.{tried-stages}

abbrev pub AllFollow : Key → Stages → Type 0
AllFollow key l = (i : ℕ) → i < stage_count → Follows key (stage_at l i)

with-follows : (key : Key) (l : Stages) (i : ℕ) (s : Stage) → Follows key s → AllFollow key l → AllFollow key (with_stage l i s)
with-follows key l i s f q j b =
    elim (ℕ_discrete j i) [
      | yes e ↦ rw e (stage-with l i s (Follows key) (follows-none key) f)
      | no e ↦ rw (stage-with-other l i s j e) (q j b)
    ]

module _ (c : Round) (few : levels c.signature.length ≤ stage_count) where
  abbrev key : Key
  key = c.signature.key

  -- a start is compared, and enters stage i or not
  tried-follows :
      (i : ℕ) (start : Mark) (w : Walk)
      → i ≤ levels c.signature.length
      → Below start.print
      → AllFollow key w.stages
      → AllFollow key (tried c i start w).stages
  tried-follows i start w l print q =
      elim (tried-stages c i start w) [
        | inl e ↦ rw e q
        | inr e ↦
            rw e.1 (with-follows key w.stages i _ (follows-entered key _ start print (q i (omega (arith, e.0)))) q)
      ]

  -- stage i is visited
  visited-follows :
      (i : ℕ) (w : Walk) → i < levels c.signature.length → AllFollow key w.stages → AllFollow key (visited c i w).stages
  unfolding visited
  visited-follows i w l q =
      let s : Stage = stage_at w.stages i in
      let here : Follows key s = q i (omega arith) in
      by-test (ripe c i s)
      (λ e.
      rw (e, visited)
      (tried-follows (suc i) s.first _ l here.first
      (with-follows key w.stages i _ (follows-off key s (eqb-false _ _ (not-true _ (and_left _ _ e))) here) q)))
      (λ e. rw (e, visited) q)

  descended-follows :
      (i : ℕ) (w : Walk) → i ≤ levels c.signature.length → AllFollow key w.stages → AllFollow key (descended c i w).stages
  unfolding descended
  descended-follows zero w l q = q
  descended-follows (suc i) w l q = descended-follows i (visited c i w) (omega arith) (visited-follows i w l q)

pub walked-follows :
    (c : Round) (start : Mark) (stages : Stages)
    → c.signature.length ≤ max_length
    → Below start.print
    → AllFollow c.signature.key stages
    → AllFollow c.signature.key (walked_from c start stages).stages
unfolding walked_from
walked-follows c start stages short print q =
    let few = levels-bound c.signature.length short in
    tried-follows c few 0 start _ (omega arith) print
    (descended-follows c few (levels c.signature.length) (record { stages = stages; answer = no_answer }) (omega arith) q)
