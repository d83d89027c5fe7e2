-- A byte at which no start is ripe and which is not P_0 leaves the stages as they were.
-- Assumes nothing.
use Prim.Native.Nat.{ℕ, zero, suc, ◌+◌, ◌-◌, ◌≤◌, ◌<◌}
use mathlib.Core.Path.{◌≡◌, refl, sym, ◌∙◌, ap}
use mathlib.Core.Bool.{false, true≢false}
use native.Mathlib.Decide.{ℕ_discrete}
use native.Mathlib.Omega.{arith}
use lib.Dec.{eqb}
use lib.ListN.{get_or}
use borrow.Author.Tests.{eqb-false, ne_eqb}
use Rattle.fingerprint.specs.declared.Fingerprint.{Fingerprint}
use Rattle.fingerprint.specs.Fingerprint.{same, empty, rest, byte_print}
use Rattle.fingerprint.proofs.Laws.{same-eq, eq-same, one_byte}
use Rattle.ladder.specs.Prefix.{levels, prefix_length}
use Rattle.ladder.proofs.Levels.{length-positive}
use Rattle.lists.proofs.Cases.{by-test}
use Rattle.signature.specs.declared.Signature.{Signature}
use Rattle.stage.specs.declared.Mark.{Mark}
use Rattle.stage.specs.declared.Stage.{Stage}
use Rattle.stage.specs.Stage.{next_mark, quiet_until}
use Rattle.stage.proofs.Moves.{quiet-most, quiet-before}
use Rattle.stage.specs.Stages.{Stages, stage_at}
use Rattle.walk.specs.declared.Walk.{Walk}
use Rattle.walk.specs.declared.Round.{Round}
use Rattle.walk.specs.Walk.{no_answer, compared, matches, tried, ripe, descended, walked_from}
use Rattle.walk.specs.Quiet.{is_first, Unripe}
use Rattle.walk.proofs.Visits.{visit-unripe}

-- the test of equality, turned round
same-turned : (f g : Fingerprint) → same f g ≡ false → same g f ≡ false
same-turned f g e =
    by-test (same g f) (λ d. absurd (true≢false (sym (eq-same f g (sym (same-eq g f d))) ∙ e))) (λ d. d)

descended-idle : (c : Round) (i : ℕ) (w : Walk) → ((j : ℕ) → j < i → ripe c j (stage_at w.stages j) ≡ false) → descended c i w ≡ w
unfolding descended
descended-idle c zero w f = refl
descended-idle c (suc i) w f =
    ap (descended c i) (visit-unripe c i w (f i (omega arith))) ∙ descended-idle c i w (λ j l. f j (omega arith))

not-ripe : (c : Round) (i : ℕ) (s : Stage) → ((s.held ≡ 0 → ⊥) → c.now.at < s.first.at + prefix_length c.signature.length (suc i)) → ripe c i s ≡ false
not-ripe c i s f =
    by-test (eqb s.held 0) (λ e. rw e) (λ e. rw (e, ne_eqb (s.first.at + prefix_length c.signature.length (suc i)) c.now.at (omega (arith, f (eqb-false _ _ e)))))

-- The byte b, at which no start is ripe, and which is not P_0.
module _ (s : Signature) (start : Mark) (stages : Stages) (b : ℕ)
    (unripe : Unripe (levels s.length) s.length (suc start.at) stages)
    (other : is_first (get_or s.prints 0 empty) b ≡ false) where
  abbrev next : Mark
  next = next_mark s.key start b

  unlike : matches (record { signature = s; now = next }) 0 start ≡ false
  unlike =
      let f : Fingerprint = get_or s.prints 0 empty in
      let one : suc start.at - start.at ≡ 1 = omega arith in
      let block : rest s.key next.print start.print (suc start.at - start.at) ≡ byte_print b =
      rw one (one_byte s.key start.print b)
      in
      rw block (same-turned f (byte_print b) other)

  pub walked-quietly :
      walked_from (record { signature = s; now = next }) start stages ≡ record { stages = stages; answer = compared no_answer }
  unfolding walked_from tried
  walked-quietly =
      rw (
        descended-idle (record { signature = s; now = next }) (levels s.length) (record { stages = stages; answer = no_answer })
            (λ j l. not-ripe (record { signature = s; now = next }) j (stage_at stages j) (unripe j l)),
        unlike,
      )

-- one stage more
pub unripe-more :
    (k m : ℕ) (stages : Stages) {t u : ℕ}
    → 1 ≤ m
    → t ≡ quiet_until (prefix_length m (suc k)) u (stage_at stages k)
    → Unripe k m u stages
    → Unripe (k + 1) m t stages
unripe-more k m stages {t} {u} low e f i b h =
    let length : ℕ = prefix_length m (suc k) in
    elim (ℕ_discrete i k) [
      | yes d ↦ rw (e, d) (quiet-before length u (stage_at stages k) (length-positive m (suc k) low) (rw d at h))
      | no d ↦ omega (arith, f i (omega arith) h, quiet-most length u (stage_at stages k))
    ]
