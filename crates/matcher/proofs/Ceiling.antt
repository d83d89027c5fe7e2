-- No answer counts more comparisons than one more than the stages of the watch, whatever watch and byte.
-- Assumes nothing.
use Prim.Native.Nat.{ℕ, suc, ◌≤◌}
use native.Mathlib.Omega.{arith}
use lib.Dec.{eqb}
use Rattle.ladder.specs.Prefix.{levels}
use Rattle.lists.proofs.Cases.{by-test}
use Rattle.walk.proofs.Count.{walked-count}
use Rattle.matcher.specs.declared.Matcher.{Matcher}
use Rattle.matcher.specs.Stroke.{stroke_refusal, stroke_answer}

pub ceiling : (w : Matcher) (b : ℕ) → (stroke_answer w b).comparisons ≤ suc (levels w.signature.length)
unfolding stroke_answer
ceiling w b =
    by-test (eqb (stroke_refusal w) 0) (λ e. rw (e, stroke_answer) (walked-count _ w.now w.stages))
    (λ e. rw (e, stroke_answer) (omega arith))
