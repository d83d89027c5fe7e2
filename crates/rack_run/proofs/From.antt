-- A card's stages list no start below the count at which it was put in, also after a byte.
-- Assumes nothing.
use Prim.Native.Nat.{ℕ, zero, suc, ◌≤◌, ◌<◌}
use mathlib.Core.Path.{◌≡◌, refl}
use mathlib.Core.Bool.{true, not, ◌&&◌}
use native.Mathlib.Decide.{ℕ_discrete}
use native.Mathlib.Omega.{arith}
use lib.Dec.{eqb, leb}
use borrow.Author.Tests.{eqb-true, eqb-false, ne_eqb, leb-true, le-leb, not-true}
use Rattle.fingerprint.specs.declared.Key.{Key}
use Rattle.ladder.specs.Prefix.{levels}
use Rattle.lists.proofs.Laws.{and_left, and_right, every-at, every-intro}
use Rattle.lists.proofs.Cases.{by-test}
use Rattle.stage.specs.declared.Mark.{Mark}
use Rattle.stage.specs.declared.Stage.{Stage}
use Rattle.stage.specs.Stage.{same_gap, gap_to, taken_off, entered, next_mark}
use Rattle.stage.specs.Stages.{stage_count, Stages, stage_at, with_stage, no_stages}
use Rattle.stage.proofs.Stages.{stage-with, stage-with-other, no-stage-at}
use Rattle.matcher.specs.declared.Matcher.{Matcher}
use Rattle.walk.specs.declared.Round.{Round}
use Rattle.walk.specs.declared.Walk.{Walk}
use Rattle.walk.specs.Walk.{no_answer, promoted_under, matches, tried, ripe, visited, descended, walked_from}
use Rattle.matcher.specs.Stroke.{walked}
use Rattle.rack.specs.Rack.{listed_from, all_from}

-- Each start that a stage lists is c or later: first and last tell.
abbrev Later : ℕ → Stage → Type 0
Later c s = (s.held ≡ 0 → ⊥) → (c ≤ s.first.at) × (c ≤ s.last.at)

abbrev AllLater : ℕ → Stages → Type 0
AllLater c stages = (i : ℕ) → i < stage_count → Later c (stage_at stages i)

module _ (c : ℕ) where
  later_of : (s : Stage) → listed_from c s ≡ true → Later c s
  later_of s e n =
      let q : leb c s.first.at && leb c s.last.at ≡ true = rw (ne_eqb s.held 0 n) at e in
      (leb-true _ _ (and_left _ _ q), leb-true _ _ (and_right (leb c s.first.at) _ q))

  of-later : (s : Stage) → Later c s → listed_from c s ≡ true
  of-later s h =
      by-test (eqb s.held 0) (λ e. rw e)
      (λ e. let q = h (eqb-false _ _ e) in rw (e, le-leb c s.first.at q.0, le-leb c s.last.at q.1))

  all-later : (stages : Stages) → all_from c stages ≡ true → AllLater c stages
  all-later stages e i l = later_of (stage_at stages i) (every-at _ stage_count e i l)

  later-all : (stages : Stages) → AllLater c stages → all_from c stages ≡ true
  later-all stages h = every-intro _ stage_count (λ i l. of-later (stage_at stages i) (h i l))

  pub all_none : all_from c no_stages ≡ true
  all_none = every-intro _ stage_count (λ i l. rw (no-stage-at i))

  -- The second start is later than the first.
  later-off : (key : Key) (s : Stage) → Later c s → Later c (taken_off key s)
  unfolding taken_off
  later-off key s h =
      by-test (eqb s.held 1) (λ e. rw (e, taken_off) (λ n. absurd (n refl)))
      (λ e.
      by-test (eqb s.held 2)
      (λ f.
      rw (e, f, taken_off)
      (λ n. let q = h (omega (arith, eqb-true s.held 2 f)) in (omega (arith, q.0), omega (arith, q.0))))
      (λ f. rw (e, f, taken_off) (λ n. let q = h (omega arith) in (omega (arith, q.0), q.1))))

  later-entered : (key : Key) (s : Stage) (new : Mark) → c ≤ new.at → Later c s → Later c (entered key s new)
  unfolding entered
  later-entered key s new l h =
      by-test (eqb s.held 0) (λ e. rw (e, entered) (λ n. (l, l)))
      (λ e.
      let q = h (eqb-false _ _ e) in
      by-test (not (eqb s.held 1) && same_gap (gap_to key s.last new) s.step)
      (λ f. rw (e, entered, f) (λ n. (q.0, l)))
      (λ f. rw (e, entered, f) (λ n. (q.1, l))))

  later-with : (stages : Stages) (i : ℕ) (s : Stage) → Later c s → AllLater c stages → AllLater c (with_stage stages i s)
  later-with stages i s h all j l =
      elim (ℕ_discrete j i) [
        | yes e ↦ rw e (stage-with stages i s (Later c) (λ n. absurd (n refl)) h)
        | no e ↦ rw (stage-with-other stages i s j e) (all j l)
      ]

  module _ (round : Round) (small : levels round.signature.length ≤ stage_count) where
    abbrev key : Key
    key = round.signature.key

    abbrev top : ℕ
    top = levels round.signature.length

    later-tried :
        (i : ℕ) (start : Mark) (w : Walk)
        → i ≤ top
        → c ≤ start.at
        → AllLater c w.stages
        → AllLater c (tried round i start w).stages
    unfolding tried promoted_under
    later-tried i start w b l all =
        by-test (matches round i start)
        (λ e.
        by-test (eqb i top)
        (λ f. rw (e, tried, f, promoted_under) all)
        (λ f.
        rw (e, tried, f, promoted_under)
        (later-with w.stages i _ (later-entered key _ start l (all i (omega (arith, eqb-false i top f)))) all)))
        (λ e. rw (e, tried) all)

    later-visited : (i : ℕ) (w : Walk) → i < top → AllLater c w.stages → AllLater c (visited round i w).stages
    unfolding visited
    later-visited i w b all =
        let s : Stage = stage_at w.stages i in
        by-test (ripe round i s)
        (λ e.
        rw (e, visited)
        (later-tried (suc i) s.first _ b (all i (omega arith) (eqb-false _ _ (not-true _ (and_left _ _ e)))).0
        (later-with w.stages i _ (later-off key s (all i (omega arith))) all)))
        (λ e. rw (e, visited) all)

    later-descended : (i : ℕ) (w : Walk) → i ≤ top → AllLater c w.stages → AllLater c (descended round i w).stages
    unfolding descended
    later-descended zero w b all = all
    later-descended (suc i) w b all = later-descended i (visited round i w) (omega arith) (later-visited i w b all)

  pub walked_from_lem :
      (w : Matcher) (byte : ℕ)
      → levels w.signature.length ≤ stage_count
      → c ≤ w.now.at
      → all_from c w.stages ≡ true
      → all_from c (walked w byte).stages ≡ true
  unfolding walked_from
  walked_from_lem w byte small l from =
      let round : Round = record { signature = w.signature; now = next_mark w.signature.key w.now byte } in
      let start : Walk = record { stages = w.stages; answer = no_answer } in
      later-all (walked w byte).stages
      (later-tried round small 0 w.now _ (omega arith) l
      (later-descended round small (levels w.signature.length) start (omega arith) (all-later w.stages from)))
