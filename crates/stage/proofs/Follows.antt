-- F_last comes out of F_first by held - 1 joins of the step print (document 02, A.7): what a stage that fits says of itself, and that taking
-- off and entering keep it.
-- Assumes nothing.
use Prim.Native.Nat.{ℕ, suc, ◌-◌}
use mathlib.Core.Path.{◌≡◌, refl, sym, ◌∙◌, ap}
use mathlib.Core.Bool.{true}
use native.Mathlib.Omega.{arith}
use lib.Dec.{ltb, eqb}
use borrow.Author.Tests.{eqb-false, lt-ltb}
use Rattle.fingerprint.specs.declared.Key.{Key}
use Rattle.fingerprint.specs.declared.Fingerprint.{Fingerprint}
use Rattle.fingerprint.specs.Fingerprint.{Below, joined, joined_times}
use Rattle.fingerprint.proofs.Laws.{same-eq, eq-same, empty-below, joined-below, join-rest}
use Rattle.fingerprint.proofs.Joins.{times-first}
use Rattle.lists.proofs.Cases.{by-test}
use Rattle.lists.proofs.Laws.{and_left, and_right, and_both}
use Rattle.stage.specs.declared.Mark.{Mark}
use Rattle.stage.specs.declared.Stage.{Stage}
use Rattle.stage.specs.Stage.{no_stage, same_gap, gap_to, forward, alone, taken_off, entered, shape_fits, last_fits, stage_fits}
use Rattle.stage.proofs.Fit.{Fit, idle, single, several, fit_of, fits-of, same_gap_lem}

-- F_first, and so many joins of the step print.
abbrev reached : Key → ℕ → Stage → Fingerprint
reached key n s = joined_times key n s.first.print s.step.print s.step.length

pub record Follows (key : Key) (s : Stage) : Type 0 where
  pub first : Below s.first.print
  pub last : Below s.last.print
  pub joins : s.last.print ≡ reached key (s.held - 1) s

module _ (key : Key) where
  -- a stage that lists one start, and one that lists none
  pub follows-alone : (a : Mark) → Below a.print → Follows key (alone a)
  unfolding joined_times
  follows-alone a l = record { first = l; last = l; joins = refl }

  pub follows-none : Follows key no_stage
  unfolding joined_times
  follows-none = record { first = empty-below; last = empty-below; joins = refl }

module _ (key : Key) (s : Stage) where
  -- The rule as a test says it of the stages that document 01's rules let pass.
  pub follows_of : (m i lo hi : ℕ) → Fit m i lo hi s → last_fits key s ≡ true → Follows key s
  unfolding last_fits
  follows_of m i lo hi (idle e) r = rw e (follows-none key)
  follows_of m i lo hi (single q) r = rw q.shape (follows-alone key s.first q.print)
  follows_of m i lo hi (several q) r =
      record {
        first = q.first-print;
        last = q.last-print;
        joins = same-eq _ _ (rw (lt-ltb 1 s.held (omega (arith, q.held))) at r);
      }

  pub fits-follow : Follows key s → last_fits key s ≡ true
  unfolding last_fits
  fits-follow q = by-test (ltb 1 s.held) (λ e. rw e (eq-same _ _ q.joins)) (λ e. rw e)

  -- Where two starts are held, taking the first off may as well move it by a join: the last is where the step leads.
  pub two-agree : (m i lo hi : ℕ) → Fit m i lo hi s → Follows key s → s.held ≡ 2 → s.last ≡ forward key s.first s.step
  unfolding joined_times
  two-agree m i lo hi (idle e) f two = absurd (omega (arith, ap (λ (u : Stage). u.held) e))
  two-agree m i lo hi (single q) f two = absurd (omega (arith, ap (λ (u : Stage). u.held) q.shape))
  two-agree m i lo hi (several q) f two =
      let none : q.more ≡ 0 = omega (arith, q.held) in
      let at : s.last.at ≡ (forward key s.first s.step).at = rw none at q.ends ∙ omega arith in
      let print : s.last.print ≡ (forward key s.first s.step).print = rw two at f.joins in
      λ j. record { at = at j; print = print j }

  -- The first is taken off.
  pub follows-off : (s.held ≡ 0 → ⊥) → Follows key s → Follows key (taken_off key s)
  unfolding taken_off
  follows-off n q =
      by-test (eqb s.held 1)
      (λ e. rw e (follows-none key))
      (λ e. by-test (eqb s.held 2)
      (λ f. rw (e, f) (follows-alone key s.last q.last))
      (λ f.
      let three : s.held - 1 ≡ suc (s.held - 1 - 1) = omega (arith, n, eqb-false s.held 1 e, eqb-false s.held 2 f) in
      rw (e, f)
      (record {
        first = joined-below key _ _ _;
        last = q.last;
        joins = q.joins ∙ ap (λ (k : ℕ). reached key k s) three ∙ times-first key s.step.print s.step.length (s.held - 1 - 1) s.first.print;
      })))

  -- A newcomer enters.
  module _ (new : Mark) (print : Below new.print) where
    -- the gap to it, joined to the last
    gap-joins : joined key s.last.print (gap_to key s.last new).print (gap_to key s.last new).length ≡ new.print
    gap-joins = join-rest key new.print s.last.print _ print

    pair-follows : Follows key s → Follows key (record { held = 2; first = s.last; last = new; step = gap_to key s.last new })
    unfolding joined_times
    pair-follows q = record { first = q.last; last = print; joins = sym gap-joins }

    longer-follows :
        (s.held ≡ 0 → ⊥)
        → same_gap (gap_to key s.last new) s.step ≡ true
        → Follows key s
        → Follows key (record { held = suc s.held; first = s.first; last = new; step = s.step })
    unfolding joined_times
    longer-follows n e q =
        let more : suc s.held - 1 ≡ suc (s.held - 1) = omega (arith, n) in
        record {
          first = q.first;
          last = print;
          joins = rw more (rw (← q.joins, ← same_gap_lem (gap_to key s.last new) s.step e) (sym gap-joins));
        }

    pub follows-entered : Follows key s → Follows key (entered key s new)
    unfolding entered
    follows-entered q =
        by-test (eqb s.held 0)
        (λ e. rw e (follows-alone key new print))
        (λ e. by-test (eqb s.held 1)
        (λ f. rw (e, f) (pair-follows q))
        (λ f. by-test (same_gap (gap_to key s.last new) s.step)
        (λ g. rw (e, f, g) (longer-follows (eqb-false _ _ e) g q))
        (λ g. rw (e, f, g) (pair-follows q))))

  -- A stage is no misfit where document 01's rules hold and F_last follows.
  pub shape_of : (m i t : ℕ) → stage_fits key m i t s ≡ true → Fit m i t t s
  unfolding stage_fits
  shape_of m i t e = fit_of m i t s (and_left _ _ e)

  pub last_of : (m i t : ℕ) → stage_fits key m i t s ≡ true → Follows key s
  unfolding stage_fits
  last_of m i t e = follows_of m i t t (shape_of m i t e) (and_right (shape_fits m i t s) _ e)

  pub stage-fits : (m i t : ℕ) → Fit m i t t s → Follows key s → stage_fits key m i t s ≡ true
  unfolding stage_fits
  stage-fits m i t f q = and_both (fits-of m i t s f) (fits-follow q)
