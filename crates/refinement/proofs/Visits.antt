-- Stage after stage is visited, the highest first: the watch follows the ladder from one visit to the next.
-- Assumes nothing.
use Prim.Native.Nat.{ℕ, zero, suc, ◌+◌, ◌-◌, ◌≤◌, ◌<◌}
use mathlib.Core.Path.{◌≡◌, refl, sym, ◌∙◌, ap, subst}
use mathlib.Core.Logic.{inl, inr}
use mathlib.Core.Bool.{true, false, true≢false}
use mathlib.Core.List.{List, [], ◌∷◌}
use mathlib.Core.Option.{none}
use native.Mathlib.Decide.{ℕ_discrete}
use native.Mathlib.Omega.{arith}
use lib.Dec.{eqb}
use lib.ListN.{length}
use borrow.Author.Tests.{eq-eqb, ne_eqb}
use Rattle.fingerprint.specs.Fingerprint.{agree_under}
use Rattle.ladder.specs.Prefix.{block}
use Rattle.ladder.specs.Ladder as ladder
use Rattle.ladder.proofs.Byte.{Byte, rest, due, tested}
use Rattle.ladder.proofs.Step.{untested}
use Rattle.ladder.proofs.Levels.{first-length}
use Rattle.ladder.proofs.Starts.{Has, Ascending}
use Rattle.ladder.proofs.Aged.{Staged}
use Rattle.ladder.proofs.Visited.{Met, Kept, Taken, rest-view, rest_has, due-tested, tried-at}
use Rattle.ladder.proofs.Even.{Even}
use Rattle.ladder.proofs.Gaps.{Alike}
use Rattle.stage.specs.Stage.{taken_off}
use Rattle.stage.specs.Stages.{stage_count, Stages, Whole, stage_at, with_stage}
use Rattle.stage.proofs.Stages.{stage-with-same, stage-with-other, whole_with}
use Rattle.walk.specs.Walk.{tried, ripe, visited, descended, no_answer}
use Rattle.walk.specs.declared.Walk.{Walk}
use Rattle.refinement.specs.Refinement.{card_tests, summary}
use Rattle.lists.proofs.Cases.{by-test}
use Rattle.refinement.proofs.Summary.{summary-held, summary-first, summary-off}
use Rattle.refinement.proofs.Follow.{Scene, round, top, size, mark, stored, comparing, Follows, more-follows, compare-follows}

-- What the ladder's theory says of the stages that a byte comes upon.
pub record Upon (c : Scene) (stages : ladder.Stages) : Type 0 where
  pub ok : Staged c.card.length c.t stages
  pub even : (i : ℕ) → Even (stages i)
  pub like : (i : ℕ) → Alike (agree_under c.card.key) c.history (stages i)

module _ (c : Scene) (stages : ladder.Stages) (u : Upon c stages) where
  abbrev byte : Byte
  byte = record { tests = card_tests c.card; history = c.history; stages = stages }

  met : Met byte c.t
  met = record { now = c.now; ok = u.ok }

  -- Whether a stage is ripe, the watch sees from its first start.
  ripe-stored : (i x : ℕ) (xs : List ℕ) → ripe (round c) i (stored c (x ∷ xs)) ≡ eqb (x + size c (suc i)) (suc c.t)
  ripe-stored i x xs =
      rw (
        summary-held c.card.key c.history x xs,
        summary-first c.card.key c.history x xs,
        ne_eqb (suc (length xs)) 0 (omega arith),
      )

  ripe-kept : (i : ℕ) (xs : List ℕ) → stages i ≡ xs → tested byte (suc i) ≡ false → ripe (round c) i (stored c xs) ≡ false
  unfolding summary
  ripe-kept i [] e k = refl
  ripe-kept i (x ∷ xs) e k =
      ripe-stored i x xs
      ∙ ne_eqb _ _ (λ d. true≢false (sym (due-tested met i x (rw e (inl refl)) d) ∙ k))

  ripe-taken : (i : ℕ) (k : Taken met i) → ripe (round c) i (stored c (due byte (suc i) ∷ k.tail)) ≡ true
  ripe-taken i k = ripe-stored i _ k.tail ∙ eq-eqb _ _ (tried-at met (suc i) k.ready)

  compare-other : (i s j : ℕ) (l : ladder.Walk) → (j ≡ i → ⊥) → (comparing c i s l).stages j ≡ l.stages j
  unfolding ladder.compare ladder.promote
  compare-other i s j l n =
      by-test ((card_tests c.card).matches i (block c.history s (size c i)))
      (λ e.
      by-test (eqb i (top c))
      (λ f. rw (e, ladder.compare, f, ladder.promote))
      (λ f. rw (e, ladder.compare, f, ladder.promote, ne_eqb j i n)))
      (λ e. rw (e, ladder.compare))

  abbrev visiting : ℕ → ladder.Walk → ladder.Walk
  visiting = ladder.visit (card_tests c.card) c.history

  -- Before stage i - 1 is visited: stage i has lost its ripe start, and the stages below are those before the byte.
  record Midway (i : ℕ) (l : ladder.Walk) (w : Walk) : Type 0 where
    follows : Follows c (top c - suc i) l w
    here : l.stages i ≡ rest byte i
    below : (j : ℕ) → j < i → l.stages j ≡ stages j

  module _ (i : ℕ) (l : ladder.Walk) (w : Walk) (b : i < top c) (q : Midway (suc i) l w) where
    listed : l.stages i ≡ stages i
    listed = q.below i (omega arith)

    place : i < stage_count
    place = omega (arith, c.small)

    held : stage_at w.stages i ≡ stored c (stages i)
    held = q.follows.stage i place ∙ ap (stored c) listed

    -- no start is ripe
    visit-kept : Kept met i → Midway i (visiting i l) (visited (round c) i w)
    unfolding ladder.visit visited tested
    visit-kept k =
        rw (held, ripe-kept i (stages i) refl k.idle, visited, listed, k.idle, ladder.visit)
        (record {
          follows = more-follows c _ l w q.follows (top c - suc i) (omega arith);
          here = listed ∙ sym k.same;
          below = λ j o. q.below j (omega arith);
        })

    -- the stage with the starts xs left
    abbrev lesser : List ℕ → ladder.Walk
    lesser xs = record { stages = ladder.put l.stages i xs; answer = l.answer }

    lesser-other : (xs : List ℕ) (j : ℕ) → (j ≡ i → ⊥) → (lesser xs).stages j ≡ l.stages j
    lesser-other xs j n = rw (ne_eqb j i n)

    off-follows :
        (xs : List ℕ)
        → Follows c (top c - suc (suc i)) (lesser xs) (record { stages = with_stage w.stages i (stored c xs); answer = w.answer })
    off-follows xs =
        record {
          long = whole_with w.stages i _ q.follows.long;
          stage =
              λ j o.
              elim (ℕ_discrete j i) [
                | yes e ↦
                    rw (e, eq-eqb i i refl)
                    (stage-with-same w.stages i (stored c xs) q.follows.long place)
                | no e ↦ rw (ne_eqb j i e) (stage-with-other w.stages i _ j e ∙ q.follows.stage j o)
              ];
          room = q.follows.room;
          few = q.follows.few;
          answer = q.follows.answer;
        }

    -- the starts of stage i + 1 are older than the one that is ripe in stage i
    older : (s x : ℕ) → s + size c (suc i) ≡ suc c.t → Has (l.stages (suc i)) x → x ≤ s
    older s x due r = omega (arith, (u.ok.aged (suc i)).old x (rest_has met (suc i) x (rw q.here at r)).0)

    summary-taken : (s : ℕ) (xs : List ℕ) → stages i ≡ s ∷ xs → taken_off c.card.key (stored c (s ∷ xs)) ≡ stored c xs
    summary-taken s xs e =
        summary-off c.card.key c.history s xs (subst Ascending e (u.ok.aged i).ascends)
        (λ x r. omega (arith, (u.ok.aged i).old x (rw e r), c.now)) (subst Even e (u.even i))
        (subst (Alike (agree_under c.card.key) c.history) e (u.like i))

    -- the first start is ripe
    visit-taken : Taken met i → Midway i (visiting i l) (visited (round c) i w)
    unfolding ladder.visit visited tested
    visit-taken k =
        let s : ℕ = due byte (suc i) in
        let left : ladder.without (stages i) s ≡ k.tail = rw k.ready at k.left in
        let due-now : s + size c (suc i) ≡ suc c.t = tried-at met (suc i) k.ready in
        let v : ladder.Walk = lesser k.tail in
        rw (
          held,
          k.shape,
          ripe-taken i k,
          visited,
          summary-taken s k.tail k.shape,
          summary-first c.card.key c.history s k.tail,
          listed,
          k.ready,
          ladder.visit,
          left,
        )
        (record {
          follows =
              compare-follows c (suc i) s v _ b due-now
              (λ x r. older s x due-now (rw (lesser-other k.tail (suc i) (omega arith)) at r)) (off-follows k.tail);
          here = compare-other (suc i) s i v (omega arith) ∙ rw (eq-eqb i i refl) (sym k.left);
          below =
              λ j o.
              compare-other (suc i) s j v (omega arith) ∙ lesser-other k.tail j (omega arith) ∙ q.below j (omega arith);
        })

    visit-midway : Midway i (visiting i l) (visited (round c) i w)
    visit-midway = elim (rest-view met i) [ inl k ↦ visit-kept k | inr k ↦ visit-taken k ]

  abbrev descending : ℕ → ladder.Walk → ladder.Walk
  descending = ladder.descend (card_tests c.card) c.history

  descend-midway : (i : ℕ) (l : ladder.Walk) (w : Walk) → i ≤ top c → Midway i l w → Midway 0 (descending i l) (descended (round c) i w)
  unfolding ladder.descend descended
  descend-midway zero l w b q = q
  descend-midway (suc i) l w b q = descend-midway i (visiting i l) (visited (round c) i w) (omega arith) (visit-midway i l w b q)

  -- A watch that stores the summaries of the stages before the byte stores those after it, and answers as the ladder does.
  module _
      (long : 1 ≤ c.card.length)
      (before : Stages)
      (many : Whole before)
      (each : (j : ℕ) → j < stage_count → stage_at before j ≡ stored c (stages j))
    where
      abbrev begin : ladder.Walk
      begin = record { stages = stages; answer = record { ring = none; aside = []; comparisons = 0 } }

      abbrev begins : Walk
      begins = record { stages = before; answer = no_answer }

      begin-midway : Midway (top c) begin begins
      begin-midway =
          record {
            follows = record { long = many; stage = each; room = refl; few = omega arith; answer = refl };
            here = rw (untested byte (top c) (u.ok.empty (top c) (omega arith)));
            below = λ j o. refl;
          }

      pub step_follows :
          Follows c (top c) (ladder.step (card_tests c.card) c.history stages)
          (tried (round c) 0 (mark c c.t) (descended (round c) (top c) begins))
      unfolding ladder.step
      step_follows =
          let q : Midway 0 (descending (top c) begin) (descended (round c) (top c) begins) =
          descend-midway (top c) begin begins (omega arith) begin-midway
          in
          let last : length c.history - 1 ≡ c.t = omega (arith, c.now) in
          let now : c.t + size c 0 ≡ suc c.t = omega (arith, first-length c.card.length long) in
          let older : (x : ℕ) → Has ((descending (top c) begin).stages 0) x → x ≤ c.t =
          λ x r. omega (arith, (u.ok.aged 0).old x (rest_has met 0 x (rw q.here at r)).0)
          in
          rw last
          (more-follows c (top c - 0) _ _ (compare-follows c 0 c.t _ _ (omega arith) now older q.follows) (top c)
          (omega arith))
