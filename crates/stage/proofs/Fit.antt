-- What document 01's rules say of a stage: it lists nothing, or one start, or an arithmetic progression of starts of the right age.
-- Assumes nothing.
use Prim.Native.Nat.{ℕ, suc, ◌+◌, ◌-◌, ◌*◌, ◌≤◌, ◌<◌}
use mathlib.Core.Path.{◌≡◌, refl, ◌∙◌, ap}
use mathlib.Core.Bool.{true, cond, not}
use mathlib.Core.List.{[], ◌∷◌}
use native.Mathlib.Omega.{arith}
use lib.Dec.{ltb, leb, eqb}
use borrow.Author.Tests.{ltb-true, leb-true, eqb-true, eqb-false, not-true, lt-ltb, le-leb, eq-eqb, ne_eqb}
use Rattle.fingerprint.specs.Fingerprint.{Below, print_fits, empty}
use Rattle.fingerprint.proofs.Laws.{same-eq, same_self, fits_below, below-fits, empty-below}
use Rattle.ladder.specs.Prefix.{levels, prefix_length}
use Rattle.lists.proofs.Laws.{and_left, and_right}
use Rattle.stage.specs.declared.Mark.{Mark}
use Rattle.stage.specs.declared.Gap.{Gap}
use Rattle.stage.specs.declared.Stage.{Stage}
use Rattle.stage.specs.Stage.{no_stage, no_gap, origin, same_mark, same_gap, age_fits, none_fits, one_fits, many_fit, shape_fits, alone}
use Rattle.lists.proofs.Cases.{by-test, each}

-- A start of stage i that is old enough at `lo` and young enough at `hi`.
pub record Aged (m i lo hi start : ℕ) : Type 0 where
  pub old : start + prefix_length m i ≤ lo
  pub young : hi < start + prefix_length m (suc i)

pub record One (m i lo hi : ℕ) (s : Stage) : Type 0 where
  pub below : i < levels m
  pub shape : s ≡ alone s.first
  pub print : Below s.first.print
  pub aged : Aged m i lo hi s.first.at

-- The stage lists two starts and `more` others.
pub record Many (m i lo hi : ℕ) (s : Stage) : Type 0 where
  pub below : i < levels m
  pub more : ℕ
  pub held : s.held ≡ suc (suc more)
  pub first-print : Below s.first.print
  pub last-print : Below s.last.print
  pub step-print : Below s.step.print
  pub first-aged : Aged m i lo hi s.first.at
  pub last-aged : Aged m i lo hi s.last.at
  pub moves : 0 < s.step.length
  pub ends : s.last.at ≡ s.first.at + suc more * s.step.length

pub data Fit (m i lo hi : ℕ) (s : Stage) : Type 0 where
  idle : s ≡ no_stage → Fit m i lo hi s
  single : One m i lo hi s → Fit m i lo hi s
  several : Many m i lo hi s → Fit m i lo hi s

pub same-mark : (a b : Mark) → same_mark a b ≡ true → a ≡ b
same-mark a b e =
    let at : a.at ≡ b.at = eqb-true _ _ (and_left _ _ e) in
    let print : a.print ≡ b.print = same-eq _ _ (and_right (eqb a.at b.at) _ e) in
    λ i. record { at = at i; print = print i }

pub same_gap_lem : (a b : Gap) → same_gap a b ≡ true → a ≡ b
same_gap_lem a b e =
    let length : a.length ≡ b.length = eqb-true _ _ (and_left _ _ e) in
    let print : a.print ≡ b.print = same-eq _ _ (and_right (eqb a.length b.length) _ e) in
    λ i. record { length = length i; print = print i }

-- a stage is its fields
pub stage-by : {s u : Stage} → s.held ≡ u.held → s.first ≡ u.first → s.last ≡ u.last → s.step ≡ u.step → s ≡ u
stage-by h f l g = λ i. record { held = h i; first = f i; last = l i; step = g i }

module _ (m i t : ℕ) (s : Stage) where
  abbrev short : ℕ
  short = prefix_length m i

  abbrev long : ℕ
  long = prefix_length m (suc i)

  aged-of : (start : ℕ) → age_fits short long t start ≡ true → Aged m i t t start
  aged-of start e =
      let q = each (leb (start + short) t) (ltb t (start + long) ∷ []) e in
      omega (arith, leb-true, ltb-true)

  none_of : s.held ≡ 0 → none_fits s ≡ true → s ≡ no_stage
  unfolding none_fits
  none_of z e =
      let q = each (same_mark s.first origin) (same_mark s.last origin ∷ same_gap s.step no_gap ∷ []) e in
      stage-by z (same-mark _ _ q.0) (same-mark _ _ q.1.0) (same_gap_lem _ _ q.1.1.0)

  one_of : i < levels m → s.held ≡ 1 → one_fits short long t s ≡ true → One m i t t s
  unfolding one_fits
  one_of l z e =
      let q =
      each (print_fits s.first.print)
      (age_fits short long t s.first.at ∷ same_mark s.last s.first ∷ same_gap s.step no_gap ∷ []) e
      in
      record {
        below = l;
        shape = stage-by z refl (same-mark _ _ q.1.1.0) (same_gap_lem _ _ q.1.1.1.0);
        print = fits_below _ q.0;
        aged = aged-of s.first.at q.1.0;
      }

  many-of : i < levels m → (s.held ≡ 0 → ⊥) → (s.held ≡ 1 → ⊥) → many_fit short long t s ≡ true → Many m i t t s
  unfolding many_fit
  many-of l z o e =
      let q =
      each (print_fits s.first.print)
      (print_fits s.last.print
      ∷ print_fits s.step.print
      ∷ age_fits short long t s.first.at
      ∷ age_fits short long t s.last.at
      ∷ not (eqb s.step.length 0)
      ∷ eqb s.last.at (s.first.at + (s.held - 1) * s.step.length)
      ∷ [])
      e
      in
      record {
        below = l;
        more = s.held - 2;
        held = omega arith;
        first-print = fits_below _ q.0;
        last-print = fits_below _ q.1.0;
        step-print = fits_below _ q.1.1.0;
        first-aged = aged-of _ q.1.1.1.0;
        last-aged = aged-of _ q.1.1.1.1.0;
        moves = omega (arith, eqb-false s.step.length 0 (not-true (eqb s.step.length 0) q.1.1.1.1.1.0));
        ends = eqb-true _ _ q.1.1.1.1.1.1.0 ∙ ap (λ n. s.first.at + n * s.step.length) (omega arith);
      }

  pub fit_of : shape_fits m i t s ≡ true → Fit m i t t s
  unfolding shape_fits
  fit_of e =
      by-test (eqb s.held 0)
      (λ z. idle (none_of (eqb-true _ _ z) (rw z at e)))
      (λ z.
      let l : i < levels m = ltb-true _ _ (and_left (ltb i (levels m)) _ (rw z at e)) in
      let r : cond (eqb s.held 1) (one_fits short long t s) (many_fit short long t s) ≡ true = and_right (ltb i (levels m)) _ (rw z at e) in
      by-test (eqb s.held 1)
      (λ o. single (one_of l (eqb-true _ _ o) (rw o at r)))
      (λ o. several (many-of l (eqb-false _ _ z) (eqb-false _ _ o) (rw o at r))))

  pub fits-of : Fit m i t t s → shape_fits m i t s ≡ true
  unfolding shape_fits none_fits one_fits many_fit
  fits-of (idle e) = rw e (rw (same_self empty))
  fits-of (single q) =
      rw q.shape
      (rw (
        lt-ltb i (levels m) q.below,
        below-fits _ q.print,
        le-leb (s.first.at + short) t q.aged.old,
        lt-ltb t (s.first.at + long) q.aged.young,
        same_self s.first.print,
        same_self empty,
        eq-eqb s.first.at s.first.at refl,
      ))
  fits-of (several q) =
      let ends : s.last.at ≡ s.first.at + (s.held - 1) * s.step.length =
      q.ends ∙ ap (λ n. s.first.at + n * s.step.length) (omega arith)
      in
      rw (
        ne_eqb s.held 0 (omega arith),
        ne_eqb s.held 1 (omega arith),
        ne_eqb s.step.length 0 (omega arith),
        eq-eqb _ _ ends,
        shape_fits,
        lt-ltb i (levels m) q.below,
        below-fits _ q.first-print,
        below-fits _ q.last-print,
        below-fits _ q.step-print,
        le-leb (s.first.at + short) t q.first-aged.old,
        lt-ltb t (s.first.at + long) q.first-aged.young,
        le-leb (s.last.at + short) t q.last-aged.old,
        lt-ltb t (s.last.at + long) q.last-aged.young,
      )

pub fit-print : (m i lo hi : ℕ) (s : Stage) → Fit m i lo hi s → Below s.first.print
fit-print m i lo hi s (idle e) = rw e empty-below
fit-print m i lo hi s (single q) = q.print
fit-print m i lo hi s (several q) = q.first-print

-- a stage past k-1 lists nothing
pub fit-past : (m i lo hi : ℕ) (s : Stage) → levels m ≤ i → Fit m i lo hi s → s ≡ no_stage
fit-past m i lo hi s l (idle e) = e
fit-past m i lo hi s l (single q) = absurd (omega arith)
fit-past m i lo hi s l (several q) = absurd (omega arith)
