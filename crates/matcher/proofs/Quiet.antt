-- A byte at which no start is ripe and which is not P_0 only moves t and F_t on.
-- Assumes nothing.
use Prim.Native.Nat.{ℕ, suc, ◌≤◌, ◌<◌}
use mathlib.Core.Path.{◌≡◌}
use mathlib.Core.Bool.{true, false}
use native.Mathlib.Omega.{arith}
use lib.ListN.{get_or}
use borrow.Author.Tests.{lt-ltb}
use Rattle.fingerprint.specs.Fingerprint.{empty}
use Rattle.ladder.specs.Prefix.{levels}
use Rattle.stage.specs.declared.Mark.{Mark}
use Rattle.stage.specs.Stage.{max_taken, next_mark}
use Rattle.walk.specs.Walk.{no_answer, compared}
use Rattle.walk.specs.Quiet.{is_first, Unripe}
use Rattle.walk.proofs.Quiet.{walked-quietly}
use Rattle.matcher.specs.declared.Matcher.{Matcher}
use Rattle.matcher.specs.Matcher.{matcher_fits, moved}
use Rattle.matcher.specs.Stroke.{stroke_refusal, stroke_answer, after_stroke}
use Rattle.matcher.proofs.StrokeFits.{stroke-fits}

-- No start of the watch becomes ripe up to t.
abbrev pub Calm : Matcher → ℕ → Type 0
Calm w t = Unripe (levels w.signature.length) w.signature.length t w.stages

pub sooner : (w : Matcher) {t u : ℕ} → t ≤ u → Calm w u → Calm w t
sooner w l f i b h = omega (arith, f i b h)

-- the watch with another t and F_t
abbrev pub moved_on : Matcher → Mark → Matcher
moved_on w now = moved w now w.stages

-- The byte b, at which no start is ripe, and which is not P_0.
module _ (w : Matcher) (b : ℕ) (fits : matcher_fits w ≡ true) (room : w.now.at < max_taken) (unripe : Calm w (suc w.now.at))
    (other : is_first (get_or w.signature.prints 0 empty) b ≡ false) where
  abbrev next : Mark
  next = next_mark w.signature.key w.now b

  pub quiet-taken : stroke_refusal w ≡ 0
  quiet-taken = rw (fits, lt-ltb w.now.at max_taken room)

  pub quiet-answer : stroke_answer w b ≡ compared no_answer
  unfolding stroke_answer
  quiet-answer = rw (quiet-taken, stroke_answer, walked-quietly w.signature w.now w.stages b unripe other)

  pub quiet-after : after_stroke w b ≡ moved_on w next
  unfolding after_stroke
  quiet-after = rw (quiet-taken, after_stroke, walked-quietly w.signature w.now w.stages b unripe other)

  pub quiet-fits : matcher_fits (moved_on w next) ≡ true
  quiet-fits = rw quiet-after at (stroke-fits w b quiet-taken)
