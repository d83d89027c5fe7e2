-- The walk of a raised watch is the raised walk: each visit of a stage keeps it so.
-- Assumes nothing.
use Prim.Native.Nat.{ℕ, zero, suc, ◌+◌, ◌≤◌, ◌<◌}
use mathlib.Core.Path.{◌≡◌, refl, sym, ◌∙◌, ap}
use mathlib.Core.Bool.{true, cond, not}
use mathlib.Core.List.{List, [], ◌∷◌, ◌++◌, map}
use native.Mathlib.Nat.{not-suc-le-zero, le_of_suc-le-suc}
use native.Mathlib.Decide.{dec_lt}
use native.Mathlib.Omega.{arith}
use lib.Dec.{eqb, ltb}
use lib.ListN.{length, take, drop, get_or, set, length-set, get_or-map}
use lib.Seq.{get_or-set_other}
use borrow.Author.Tests.{eqb-true, eqb-false, ltb-true, not-true}
use Rattle.fingerprint.specs.declared.Key.{Key}
use Rattle.fingerprint.specs.Fingerprint.{same, empty}
use Rattle.ladder.specs.Prefix.{levels, prefix_length}
use Rattle.ladder.proofs.Levels.{first-length}
use Rattle.lists.proofs.Laws.{and_left, and_right}
use Rattle.lists.proofs.Cases.{by-test}
use Rattle.stage.specs.declared.Mark.{Mark}
use Rattle.stage.specs.declared.Gap.{Gap}
use Rattle.stage.specs.declared.Stage.{Stage}
use Rattle.walk.specs.declared.Answer.{Answer}
use Rattle.stage.specs.declared.Progression.{Progression}
use Rattle.walk.specs.declared.Round.{Round}
use Rattle.walk.specs.declared.Walk.{Walk}
use Rattle.stage.specs.Stage.{no_stage, taken_off, entered, sets_aside, all_but_last}
use Rattle.stage.specs.Stages.{stage_count, stage_at, with_stage}
use Rattle.walk.specs.Walk.{no_answer, ringing, with_set, compared}
use Rattle.walk.specs.Walk.{promoted_under, matches, tried, ripe, visited, descended, walked_from}
use Rattle.stage.proofs.Fit.{Fit, idle, single, several}
use Rattle.walk.proofs.Visits.{Grows, visited-grows}
use Rattle.walk.proofs.Midway.{Midway, visited-midway}
use Rattle.raising.specs.Raised.{raised_mark, raised_stage, raised_ring, raised_set, raised_answer}
use Rattle.raising.proofs.Marks.{gap-raised}
use Rattle.raising.proofs.Stages.{raised-none, raised-some, taken-raised, entered-raised, sets-raised, aside-raised, ripe-raised}

map-set : (f : Stage → Stage) (l : List Stage) (i : ℕ) (x : Stage) → set (map f l) i (f x) ≡ map f (set l i x)
map-set f [] i x = refl
map-set f (y ∷ l) zero x = refl
map-set f (y ∷ l) (suc i) x = ap (λ (r : List Stage). f y ∷ r) (map-set f l i x)

-- a set behind the n raised ones
raised-set :
    (f : Progression → Progression) (l : List Progression) (n : ℕ) (x : Progression)
    → n < length l
    → set (map f (take n l) ++ drop n l) n (f x) ≡ map f (take (suc n) (set l n x)) ++ drop (suc n) (set l n x)
raised-set f [] n x h = absurd (not-suc-le-zero h)
raised-set f (y ∷ l) zero x h = refl
raised-set f (y ∷ l) (suc n) x h = ap (λ (r : List Progression). f y ∷ r) (raised-set f l n x (le_of_suc-le-suc h))

-- A stage that fits lists no start later than one that comes of age with it.
last-before :
    (m i t : ℕ) (s : Stage) (start : ℕ) → Fit m i t (suc t) s → start + prefix_length m i ≡ suc t → (s.held ≡ 0 → ⊥) → s.last.at ≤ start
last-before m i t s start (idle e) due n = absurd (n (ap (λ (u : Stage). u.held) e))
last-before m i t s start (single q) due n = omega (arith, ap (λ (u : Stage). u.last.at) q.shape, q.aged.old)
last-before m i t s start (several q) due n = omega (arith, q.last-aged.old)

module _ (key : Key) (base : Mark) where
  abbrev up : Mark → Mark
  up = raised_mark key base

  abbrev ups : Stage → Stage
  ups = raised_stage key base

  -- An answer whose starts are raised, beside the answer itself, which has room for every stage's set.
  pub record Raised (a A : Answer) : Type 0 where
    pub whole : A ≡ raised_answer base.at a
    pub size : length a.sets ≡ stage_count

  pub record Both (w W : Walk) : Type 0 where
    pub stages : W.stages ≡ map ups w.stages
    pub answer : Raised w.answer W.answer

  ups-none : ups no_stage ≡ no_stage
  ups-none = raised-none key base no_stage refl

  pub at-raised : (l : List Stage) (i : ℕ) → stage_at (map ups l) i ≡ ups (stage_at l i)
  at-raised l i = ap (get_or (map ups l) i) (sym ups-none) ∙ get_or-map ups l i no_stage

  rung-raised : (a A : Answer) (start : ℕ) → Raised a A → Raised (ringing start a) (ringing (base.at + start) A)
  rung-raised a A start q = record { whole = ap (ringing (base.at + start)) q.whole; size = q.size }

  compared-raised : (a A : Answer) → Raised a A → Raised (compared a) (compared A)
  compared-raised a A q = record { whole = ap compared q.whole; size = q.size }

  set-raised :
      (a A : Answer) (x : Progression)
      → a.asides < stage_count
      → Raised a A
      → Raised (with_set x a) (with_set (raised_set base.at x) A)
  set-raised a A x l q =
      record {
        whole =
            ap (with_set (raised_set base.at x)) q.whole
            ∙ (λ i. record {
              ring = raised_ring base.at a.ring;
              sets = raised-set (raised_set base.at) a.sets a.asides x (omega (arith, q.size)) i;
              asides = suc a.asides;
              comparisons = a.comparisons;
            });
        size = length-set a.sets a.asides x ∙ q.size;
      }

  placed : (w W : Walk) → Both w W → (i : ℕ) → stage_at W.stages i ≡ ups (stage_at w.stages i)
  placed w W q i = ap (λ (l : List Stage). stage_at l i) q.stages ∙ at-raised w.stages i

  -- the starts of a stage, if it lists any, are not later than this one
  abbrev Before : Stage → Mark → Type 0
  Before s start = (s.held ≡ 0 → ⊥) → s.last.at ≤ start.at

  -- a start that enters: its stage, and what is set aside
  module _ (i : ℕ) (start : Mark) (w W : Walk) (q : Both w W) (before : Before (stage_at w.stages i) start) where
    abbrev s : Stage
    s = stage_at w.stages i

    there : stage_at W.stages i ≡ ups s
    there = placed w W q i

    stages-entered :
        set W.stages i (entered key (stage_at W.stages i) (up start)) ≡ map ups (set w.stages i (entered key s start))
    stages-entered =
        ap (λ (u : Stage). set W.stages i (entered key u (up start))) there
        ∙ ap (λ (u : Stage). set W.stages i u) (entered-raised key base s start before)
        ∙ ap (λ (l : List Stage). set l i (ups (entered key s start))) q.stages
        ∙ map-set ups w.stages i (entered key s start)

    answer-entered :
        w.answer.asides < stage_count
        → Raised (cond (sets_aside key s start) (with_set (all_but_last s) w.answer) w.answer)
        (cond (sets_aside key (stage_at W.stages i) (up start)) (with_set (all_but_last (stage_at W.stages i)) W.answer) W.answer)
    answer-entered l =
        rw (there, sets-raised key base s start before)
        (by-test (sets_aside key s start)
        (λ e. rw (e, aside-raised key base s (some e)) (set-raised w.answer W.answer (all_but_last s) l q.answer))
        (λ e. rw e q.answer))
      where
        some : sets_aside key s start ≡ true → s.held ≡ 0 → ⊥
        some e = λ z. omega (arith, ltb-true 1 s.held (and_left (ltb 1 s.held) _ e))

  -- what a start that enters must meet: the stage's last start is no later, and there is room for a set
  abbrev Enters : ℕ → Mark → Walk → Type 0
  Enters i start w =
      Before (stage_at w.stages i) start × (w.answer.asides < stage_count)

  promoted-raised :
      (k i : ℕ) (start : Mark) (w W : Walk)
      → Both w W
      → ((i ≡ k → ⊥) → Enters i start w)
      → Both (promoted_under key k i start w) (promoted_under key k i (up start) W)
  unfolding promoted_under
  promoted-raised k i start w W q l =
      by-test (eqb i k)
      (λ e. rw e (record { stages = q.stages; answer = rung-raised w.answer W.answer start.at q.answer }))
      (λ e. let enters = l (eqb-false i k e) in
      rw e
      (record {
        stages = stages-entered i start w W q enters.0;
        answer = answer-entered i start w W q enters.0 enters.1;
      }))

-- One byte's walk, beside that of the raised watch.
module _ (base : Mark) (c : Round) (t : ℕ) (now : c.now.at ≡ suc t) where
  abbrev key' : Key
  key' = c.signature.key

  abbrev m : ℕ
  m = c.signature.length

  abbrev lift : Mark → Mark
  lift = raised_mark key' base

  -- the round of the raised watch
  abbrev pub higher : Round
  higher = record { signature = c.signature; now = lift c.now }

  -- few enough sets: with each stage to come one more, and one to spare below the highest
  pub record Few (i : ℕ) (w : Walk) : Type 0 where
    pub room : w.answer.asides + i ≤ levels m
    pub spare : i < levels m → w.answer.asides + i < levels m

  matches-raised : (i : ℕ) (start : Mark) → start.at ≤ c.now.at → matches higher i (lift start) ≡ matches c i start
  matches-raised i start l = ap (λ (g : Gap). same g.print (get_or c.signature.prints i empty)) (gap-raised key' base start c.now l)

  tried-raised :
      (i : ℕ) (start : Mark) (w W : Walk)
      → Both key' base w W
      → start.at ≤ c.now.at
      → ((i ≡ levels m → ⊥) → Enters key' base i start w)
      → Both key' base (tried c i start w) (tried higher i (lift start) W)
  unfolding tried
  tried-raised i start w W q l enters =
      let counted : Walk → Walk = λ v. record { stages = v.stages; answer = compared v.answer } in
      let more : Both key' base (counted w) (counted W) =
      record { stages = q.stages; answer = compared-raised key' base w.answer W.answer q.answer } in
      rw (matches-raised i start l)
      (by-test (matches c i start)
      (λ e. rw e (promoted-raised key' base (levels m) i start _ _ more enters))
      (λ e. rw e more))

  module _
      (i : ℕ) (w W : Walk) (q : Both key' base w W) (below : i < levels m) (small : levels m ≤ stage_count)
      (fit : Midway m t (suc i) w.stages) (few : Few (suc i) w)
    where
      abbrev one : Stage
      one = stage_at w.stages i

      abbrev raise : Stage → Stage
      raise = raised_stage key' base

      place : stage_at W.stages i ≡ raise one
      place = placed key' base w W q i

      -- its first start is ripe
      visited-ripe :
          ripe c i one ≡ true
          → Both key' base
          (tried c (suc i) one.first (record { stages = set w.stages i (taken_off key' one); answer = w.answer }))
          (tried higher (suc i) (raise one).first (record { stages = set W.stages i (taken_off key' (raise one)); answer = W.answer }))
      visited-ripe e =
          let listed : one.held ≡ 0 → ⊥ = eqb-false _ _ (not-true _ (and_left _ _ e)) in
          let due : one.first.at + prefix_length m (suc i) ≡ c.now.at = eqb-true _ _ (and_right (not (eqb one.held 0)) _ e) in
          let other : stage_at (with_stage w.stages i (taken_off key' one)) (suc i) ≡ stage_at w.stages (suc i) =
          get_or-set_other w.stages i (suc i) (taken_off key' one) no_stage (omega arith) in
          rw (taken-raised key' base one listed, ap (λ (u : Stage). u.first) (raised-some key' base one listed))
          (tried-raised (suc i) one.first _ _
          (record {
            stages =
                ap (λ (l : List Stage). set l i (raise (taken_off key' one))) q.stages ∙ map-set raise w.stages i (taken_off key' one);
            answer = q.answer;
          })
          (omega arith)
          (λ top. (
            rw other (λ n. last-before m (suc i) t (stage_at w.stages (suc i)) one.first.at (fit.here (omega arith)) (due ∙ now) n),
            omega (arith, few.spare (omega arith)),
          )))

      visited-raised : Both key' base (visited c i w) (visited higher i W)
      unfolding visited
      visited-raised =
          rw (place, ripe-raised key' base (prefix_length m (suc i)) c.now.at one)
          (by-test (ripe c i one) (λ e. rw e (visited-ripe e)) (λ e. rw e q))

  -- a visit sets aside one set at the most, and none where it rings
  few-visited : (i : ℕ) (w : Walk) → i < levels m → Few (suc i) w → Few i (visited c i w)
  few-visited i w below few =
      let grows : Grows (levels m) (suc i) w (visited c i w) = visited-grows c i w in
      record {
        room = omega (arith, grows.asides, few.room);
        spare = λ l. elim (dec_lt (suc i) (levels m)) [
          | yes h ↦ omega (arith, grows.asides, few.spare h)
          | no h ↦ omega (arith, grows.rung (omega arith), few.room)
        ];
      }

  -- The stages below i, the highest first.
  record Done (w W : Walk) : Type 0 where
    both : Both key' base w W
    few : Few 0 w
    fit : Midway m t 0 w.stages

  descended-raised :
      (i : ℕ) (w W : Walk)
      → i ≤ levels m
      → levels m ≤ stage_count
      → Both key' base w W
      → Few i w
      → Midway m t i w.stages
      → Done (descended c i w) (descended higher i W)
  unfolding descended
  descended-raised zero w W l small q few fit = record { both = q; few = few; fit = fit }
  descended-raised (suc i) w W l small q few fit =
      descended-raised i (visited c i w) (visited higher i W) (omega arith) small (visited-raised i w W q l small fit few)
      (few-visited i w l few) (visited-midway c t now i w l (omega arith) fit)

  -- The whole walk.
  pub walked-raised :
      (start : Mark) (stages : List Stage)
      → start.at ≡ t
      → 1 ≤ m
      → levels m ≤ stage_count
      → Midway m t (levels m) stages
      → Both key' base (walked_from c start stages) (walked_from higher (lift start) (map (raised_stage key' base) stages))
  unfolding walked_from
  walked-raised start stages at-t long small fit =
      let w : Walk = record { stages = stages; answer = no_answer } in
      let W : Walk = record { stages = map (raised_stage key' base) stages; answer = no_answer } in
      let q : Both key' base w W =
      record {
        stages = refl;
        answer = record { whole = refl; size = refl };
      }
      in
      let done = descended-raised (levels m) w W (omega arith) small q (record { room = omega arith; spare = λ l. omega arith }) fit in
      let v : Walk = descended c (levels m) w in
      tried-raised 0 start v (descended higher (levels m) W) done.both (omega arith)
      (λ top. (
        λ n. last-before m 0 t (stage_at v.stages 0) start.at (done.fit.here (omega arith)) (omega (arith, first-length m long)) n,
        omega (arith, done.few.spare (omega arith)),
      ))
