-- One byte's walk over any stages: what the loop keeps, so that every number stays in range.
-- Assumes nothing.
use Prim.Native.Nat.{ℕ, zero, suc, ◌+◌, ◌-◌, ◌≤◌, ◌<◌}
use mathlib.Core.Path.{◌≡◌, refl, sym, ◌∙◌, ap}
use mathlib.Core.Bool.{true, false}
use mathlib.Core.List.{List}
use native.Mathlib.Nat.{not-suc-le-zero}
use native.Mathlib.Numerals.{sub-one}
use native.Mathlib.Omega.{arith}
use borrow.Author.Tests.{eqb-false, le-leb}
use lib.Dec.{eqb}
use Rattle.lists.proofs.Cases.{either}
use Rattle.fingerprint.specs.declared.Power.{Power}
use Rattle.ladder.specs.Prefix.{levels, prefix_length}
use Rattle.ladder.proofs.Levels.{levels-bound}
use Rattle.signature.specs.Signature.{max_length}
use Rattle.stage.specs.declared.Mark.{Mark}
use Rattle.stage.specs.declared.Stage.{Stage}
use Rattle.std.specs.Prelude.{Option, Some, None}
use Rattle.stage.specs.declared.Progression.{Progression}
use Rattle.stage.specs.Stage.{ripe_at, take_off_of}
use Rattle.stage.specs.Stages.{stage_count, Stages, stage_at, with_stage}
use Rattle.walk.specs.declared.Answer.{Answer}
use Rattle.walk.specs.declared.Round.{Round}
use Rattle.walk.specs.declared.Walk.{Walk}
use Rattle.walk.specs.Walk.{no_answer, with_aside, compared}
use Rattle.walk.specs.Climb.{promoted_by, matches_by, tried_by, visited_by, descended_by, walked_by}

-- How far the answer has grown where the stages below i are left to visit: at most one set and one comparison for each stage.
pub record Room (k i : ℕ) (a : Answer) : Type 0 where
  pub most : k ≤ stage_count
  pub within : i ≤ k
  pub asides : a.asides + i ≤ k
  pub spare : i < k → a.asides + i < k
  pub count : a.comparisons + i ≤ k

descend-one :
    (shifts : List Power) (c : Round) (n : ℕ) (w : Walk)
    → 0 < n
    → descended_by shifts c n w ≡ descended_by shifts c (n - 1) (visited_by shifts c (n - 1) w)
unfolding descended_by
descend-one shifts c zero w l = absurd (not-suc-le-zero l)
descend-one shifts c (suc n) w l = rw sub-one

-- Visiting the stage below n: none is set aside, or a start enters the stage above, which is none where it rings.
module _ (k n : ℕ) (a b : Answer) (pos : 0 < n) (q : Room k n a) where
  room-kept : b.asides ≡ a.asides → b.comparisons ≤ suc a.comparisons → Room k (n - 1) b
  room-kept e f =
      record {
        most = q.most;
        within = omega (arith, q.within);
        asides = omega (arith, e, q.asides);
        spare = λ l. omega (arith, e, q.asides);
        count = omega (arith, f, q.count);
      }

  room-entered : (n ≡ k → ⊥) → (aside : Option Progression) → b ≡ with_aside aside (compared a) → Room k (n - 1) b
  room-entered below None e = room-kept (rw e) (rw e (omega arith))
  room-entered below (Some x) e =
      let more : b.asides ≡ suc a.asides = rw e in
      let once : b.comparisons ≡ suc a.comparisons = rw e in
      record {
        most = q.most;
        within = omega (arith, q.within);
        asides = omega (arith, more, q.asides);
        spare = λ l. omega (arith, more, q.within, q.spare (omega (arith, q.within)));
        count = omega (arith, once, q.count);
      }

-- The loop over the stages: the stages below i are left to visit, the answer has room, and what is to be done from w gives what was to be done
-- at first.
pub record Turn (c : Round) (shifts : List Power) (k i : ℕ) (before w : Walk) : Type 0 where
  pub room : Room k i w.answer
  pub same : descended_by shifts c i w ≡ descended_by shifts c k before

module _ (c : Round) (shifts : List Power) (k : ℕ) (before : Walk) (last : k ≡ levels c.signature.length) where
  pub turn_begin :
      c.signature.length ≤ max_length
      → before.answer ≡ no_answer
      → Turn c shifts k k before before
  turn_begin short none =
      record {
        room = rw none
            (record {
              most = omega (arith, last, levels-bound c.signature.length short);
              within = omega arith;
              asides = omega arith;
              spare = λ l. omega arith;
              count = omega arith;
            });
        same = refl;
      }

  -- The stage below n is visited: where its first start is ripe, it is taken off and compared.
  module _ (n : ℕ) (w : Walk) (pos : 0 < n) (q : Turn c shifts k n before w) where
    abbrev stage : Stage
    stage = stage_at w.stages (n - 1)

    next : n - 1 + 1 ≡ n
    next = omega arith

    up : suc (n - 1) ≡ n
    up = omega arith

    turn-step : (r : Walk) → Room k (n - 1) r.answer → visited_by shifts c (n - 1) w ≡ r → Turn c shifts k (n - 1) before r
    turn-step r room e = record { room = room; same = rw (← e) (sym (descend-one shifts c n w pos) ∙ q.same) }

    room-tried : (start : Mark) (stages : Stages) → Room k (n - 1) (tried_by shifts c n start (record { stages = stages; answer = w.answer })).answer
    unfolding tried_by promoted_by
    room-tried start stages =
        either (λ (r : Walk). Room k (n - 1) r.answer) (matches_by shifts c n start)
        (λ m. either (λ (r : Walk). Room k (n - 1) r.answer) (eqb n (levels c.signature.length))
        (λ f. room-kept k n w.answer _ pos q.room refl (omega arith))
        (λ f. room-entered k n w.answer _ pos q.room (λ g. eqb-false n _ f (g ∙ last)) _ refl))
        (λ m. room-kept k n w.answer _ pos q.room refl (omega arith))

    pub turn_unripe :
        ripe_at (prefix_length c.signature.length (n - 1 + 1)) c.now.at stage ≡ false → Turn c shifts k (n - 1) before w
    unfolding visited_by
    turn_unripe e =
        let unripe : ripe_at (prefix_length c.signature.length n) c.now.at stage ≡ false = rw next at e in
        turn-step w (room-kept k n w.answer w.answer pos q.room refl (omega arith)) (rw (up, unripe))

    pub turn_ripe :
        (r : Walk)
        → ripe_at (prefix_length c.signature.length (n - 1 + 1)) c.now.at stage ≡ true
        → r
        ≡ tried_by shifts c (n - 1 + 1) stage.first
        (record { stages = with_stage w.stages (n - 1) (take_off_of c.signature.key stage); answer = w.answer })
        → Turn c shifts k (n - 1) before r
    unfolding visited_by
    turn_ripe r e t =
        let ripe-now : ripe_at (prefix_length c.signature.length n) c.now.at stage ≡ true = rw next at e in
        let tried :
        r
        ≡ tried_by shifts c n stage.first
        (record { stages = with_stage w.stages (n - 1) (take_off_of c.signature.key stage); answer = w.answer }) =
        rw next at t
        in
        turn-step r (rw tried (room-tried stage.first _)) (rw (up, ripe-now) (sym tried))

-- Once no stage is left, the start before the byte is tried.
pub turn_end :
    (c : Round) (shifts : List Power) (k : ℕ) (before w r : Walk) (start : Mark)
    → k ≡ levels c.signature.length
    → c.signature.length ≤ max_length
    → before.answer ≡ no_answer
    → Turn c shifts k 0 before w
    → r ≡ tried_by shifts c 0 start w
    → r ≡ walked_by shifts c start before.stages
unfolding walked_by descended_by
turn_end c shifts k before w r start last short none q t =
    let begin : Walk = record { stages = before.stages; answer = no_answer } in
    let down : w ≡ descended_by shifts c k begin =
    q.same ∙ ap (descended_by shifts c k) (λ j. record { stages = before.stages; answer = none j })
    in
    t ∙ rw (le-leb c.signature.length max_length short, ← last) (ap (tried_by shifts c 0 start) down)
