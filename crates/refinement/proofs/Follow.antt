-- While a byte is worked off, the watch goes the way of the ladder with unlimited lists: stage by stage it stores the summaries of the
-- ladder's lists, and its answer reads as the ladder's.
-- Assumes nothing.
use Prim.Native.Nat.{ℕ, suc, ◌+◌, ◌-◌, ◌≤◌, ◌<◌}
use mathlib.Core.Path.{◌≡◌, refl, ◌∙◌, ap}
use mathlib.Core.Bool.{Bool, cond}
use mathlib.Core.List.{List, [], ◌∷◌, ◌++◌, map, map-append, append-nil}
use mathlib.Core.Option.{some}
use native.Mathlib.Decide.{ℕ_discrete}
use native.Mathlib.Omega.{arith}
use lib.Dec.{eqb}
use lib.ListN.{length, take, get_or, length-set}
use lib.Seq.{take-suc-set}
use borrow.Author.Tests.{eqb-false, eq-eqb, ne_eqb}
use Rattle.fingerprint.specs.Fingerprint.{same, empty}
use Rattle.ladder.specs.Prefix.{block, levels, prefix_length}
use Rattle.ladder.specs.Ladder as ladder
use Rattle.ladder.proofs.Starts.{Has}
use Rattle.signature.specs.declared.Signature.{Signature}
use Rattle.stage.specs.declared.Mark.{Mark}
use Rattle.stage.specs.declared.Gap.{Gap}
use Rattle.stage.specs.declared.Stage.{Stage}
use Rattle.walk.specs.declared.Answer.{Answer}
use Rattle.stage.specs.declared.Progression.{Progression}
use Rattle.stage.specs.Stage.{gap_to, entered, sets_aside, all_but_last}
use Rattle.stage.specs.Stages.{stage_count, Whole, stage_at, with_stage}
use Rattle.stage.proofs.Stages.{stage-with-same, stage-with-other, whole_with}
use Rattle.walk.specs.Walk.{with_set, compared, ringing, promoted, promoted_under, matches, tried}
use Rattle.walk.specs.declared.Walk.{Walk}
use Rattle.walk.specs.declared.Round.{Round}
use Rattle.refinement.specs.Refinement.{card_tests, mark_in, summary, read_set, read_answer}
use Rattle.lists.proofs.Cases.{by-test}
use Rattle.refinement.proofs.Summary.{gap_of, gap-between, summary-entered, summary-aside}

-- A set is stored behind those stored before, or none is.
module _ (b : Bool) (x : Progression) (a : Answer) where
  abbrev with_or_not : Answer
  with_or_not = cond b (with_set x a) a

  with-room : length with_or_not.sets ≡ length a.sets
  with-room = by-test b (λ e. rw e (length-set a.sets a.asides x)) (λ e. rw e)

  with-few : with_or_not.asides ≤ suc a.asides
  with-few = by-test b (λ e. rw e (omega arith)) (λ e. rw e (omega arith))

  with-answer :
      a.asides < length a.sets
      → read_answer with_or_not
      ≡ record {
        ring = (read_answer a).ring;
        aside = (read_answer a).aside ++ map read_set (cond b (x ∷ []) []);
        comparisons = a.comparisons;
      }
  with-answer l =
      by-test b
      (λ e. rw (e, take-suc-set a.sets a.asides x l, map-append read_set (take a.asides a.sets) (x ∷ [])))
      (λ e. rw (e, append-nil (map read_set (take a.asides a.sets))))

-- A byte as the watch over a card meets it: the history has t + 1 bytes with it.
pub record Scene : Type 0 where
  pub card : Signature
  pub history : List ℕ
  pub t : ℕ
  pub small : levels card.length ≤ stage_count
  pub now : length history ≡ suc t

module _ (c : Scene) where
  abbrev pub round : Round
  round = record { signature = c.card; now = mark_in c.card.key c.history (suc c.t) }

  abbrev pub top : ℕ
  top = levels c.card.length

  abbrev pub size : ℕ → ℕ
  size i = prefix_length c.card.length i

  abbrev pub mark : ℕ → Mark
  mark s = mark_in c.card.key c.history s

  abbrev pub stored : List ℕ → Stage
  stored xs = summary c.card.key c.history xs

  -- The watch stores what the ladder lists and answers what it answers, with at most n sets set aside.
  pub record Follows (n : ℕ) (l : ladder.Walk) (w : Walk) : Type 0 where
    pub long : Whole w.stages
    pub stage : (j : ℕ) → j < stage_count → stage_at w.stages j ≡ stored (l.stages j)
    pub room : length w.answer.sets ≡ stage_count
    pub few : w.answer.asides ≤ n
    pub answer : read_answer w.answer ≡ l.answer

  -- Both compare the same block with P_i.
  matches-same :
      (i s : ℕ)
      → s + size i ≡ suc c.t
      → matches round i (mark s) ≡ (card_tests c.card).matches i (block c.history s (size i))
  matches-same i s due =
      let n : suc c.t - s ≡ size i = omega arith in
      let gap : gap_to c.card.key (mark s) (mark (suc c.t)) ≡ gap_of c.card.key c.history s (suc c.t) =
      gap-between c.card.key c.history s (suc c.t) (omega arith) (omega (arith, c.now))
      in
      ap (λ (g : Gap). same g.print (get_or c.card.prints i empty)) gap ∙ rw n

  -- the ladder's functions at this byte
  abbrev pub comparing : ℕ → ℕ → ladder.Walk → ladder.Walk
  comparing = ladder.compare (card_tests c.card) c.history

  abbrev pub entering : ℕ → ℕ → ladder.Walk → ladder.Walk
  entering = ladder.entering (card_tests c.card) c.history

  module _ (n : ℕ) (l : ladder.Walk) (w : Walk) (q : Follows n l w) where
    pub more-follows : (k : ℕ) → n ≤ k → Follows k l w
    more-follows k b =
        record { long = q.long; stage = q.stage; room = q.room; few = omega arith; answer = q.answer }

    -- one comparison more
    count-follows : Follows n (ladder.counted l) (record { stages = w.stages; answer = compared w.answer })
    count-follows =
        record {
          long = q.long;
          stage = q.stage;
          room = q.room;
          few = q.few;
          answer =
              ap
              (λ (a : ladder.Answer). record { ring = a.ring; aside = a.aside; comparisons = suc a.comparisons })
              q.answer;
        }

    ring-follows :
        (s : ℕ)
        → Follows n (ladder.ringing s l)
        (record { stages = w.stages; answer = ringing s w.answer })
    ring-follows s =
        record {
          long = q.long;
          stage = q.stage;
          room = q.room;
          few = q.few;
          answer =
              ap
              (λ (a : ladder.Answer). record { ring = some s; aside = a.aside; comparisons = a.comparisons })
              q.answer;
        }

    -- The start s enters stage i.
    module _
        (i s : ℕ)
        (place : i < stage_count)
        (free : n < stage_count)
        (inside : s ≤ length c.history)
        (low : (x : ℕ) → Has (l.stages i) x → x ≤ s)
      where
        abbrev old : Stage
        old = stage_at w.stages i

        abbrev aside : Bool
        aside = sets_aside c.card.key old (mark s)

        enter-stage :
            (j : ℕ)
            → j < stage_count
            → stage_at (with_stage w.stages i (entered c.card.key old (mark s))) j ≡ stored ((entering i s l).stages j)
        enter-stage j b =
            elim (ℕ_discrete j i) [
              | yes e ↦
                  rw (
                    e,
                    eq-eqb i i refl,
                    stage-with-same w.stages i (entered c.card.key old (mark s)) q.long place,
                    q.stage i place,
                  )
                  (summary-entered c.card c.history s inside (l.stages i) low)
              | no e ↦ rw (ne_eqb j i e) (stage-with-other w.stages i _ j e ∙ q.stage j b)
            ]

        enter-aside :
            map read_set (cond aside (all_but_last old ∷ []) [])
            ≡ (ladder.enter (card_tests c.card) c.history (l.stages i) s).aside
        enter-aside = rw (q.stage i place) (summary-aside c.card c.history s inside (l.stages i) low)

        enter-follows :
            Follows (suc n) (entering i s l)
            (record {
              stages = with_stage w.stages i (entered c.card.key old (mark s));
              answer = cond aside (with_set (all_but_last old) w.answer) w.answer;
            })
        enter-follows =
            record {
              long = whole_with w.stages i _ q.long;
              stage = enter-stage;
              room = with-room aside (all_but_last old) w.answer ∙ q.room;
              few = omega (arith, with-few aside (all_but_last old) w.answer);
              answer =
                  with-answer aside (all_but_last old) w.answer (omega (arith, q.few, q.room))
                  ∙ rw (enter-aside, ← q.answer);
            }

  -- After P_i was tried.
  pub compare-follows :
      (i s : ℕ) (l : ladder.Walk) (w : Walk)
      → i ≤ top
      → s + size i ≡ suc c.t
      → ((x : ℕ) → Has (l.stages i) x → x ≤ s)
      → Follows (top - suc i) l w
      → Follows (top - i) (comparing i s l) (tried round i (mark s) w)
  unfolding ladder.compare ladder.promote tried promoted_under
  compare-follows i s l w b due low q =
      let n : ℕ = top - suc i in
      let r = count-follows n l w q in
      by-test ((card_tests c.card).matches i (block c.history s (size i)))
      (λ e.
      by-test (eqb i top)
      (λ f.
      rw (matches-same i s due, e, tried, ladder.compare, f, promoted, ladder.promote)
      (more-follows n _ _ (ring-follows n _ _ r s) (top - i) (omega arith)))
      (λ f.
      let d : i ≡ top → ⊥ = eqb-false _ _ f in
      rw (matches-same i s due, e, tried, ladder.compare, f, promoted, ladder.promote)
      (more-follows (suc n) _ _
      (enter-follows n _ _ r i s (omega (arith, c.small)) (omega (arith, c.small)) (omega (arith, c.now)) low) (top - i)
      (omega arith))))
      (λ e. rw (matches-same i s due, e, tried, ladder.compare) (more-follows n _ _ r (top - i) (omega arith)))
