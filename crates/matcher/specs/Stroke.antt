-- One byte for a watch (document 01, "Ladder"): what it is answered, and what becomes of the watch. Defined for every watch, also for those to
-- which no history leads.
use Rattle.std.specs.Prelude.{ℕ, cond, ltb, eqb}
use Rattle.stage.specs.Stage.{max_taken, next_mark}
use Rattle.walk.specs.declared.Answer.{Answer}
use Rattle.walk.specs.declared.Walk.{Walk}
use Rattle.walk.specs.Walk.{no_answer, walked_from}
use Rattle.matcher.specs.declared.Matcher.{Matcher}
use Rattle.matcher.specs.Matcher.{matcher_fits, moved}

-- "t rises by one. Then" the walk.
abbrev pub walked : Matcher → ℕ → Walk
walked w byte =
    walked_from (record { signature = w.signature; now = next_mark w.signature.key w.now byte }) w.now w.stages

-- The stroke's refusals: 10 misfit, 6 spent.
abbrev pub stroke_refusal : Matcher → ℕ
stroke_refusal w = cond (matcher_fits w) (cond (ltb w.now.at max_taken) 0 6) 10

unfoldable pub stroke_answer : Matcher → ℕ → Answer
stroke_answer w byte = cond (eqb (stroke_refusal w) 0) (walked w byte).answer no_answer

unfoldable pub after_stroke : Matcher → ℕ → Matcher
after_stroke w byte =
    cond (eqb (stroke_refusal w) 0)
    (moved w (next_mark w.signature.key w.now byte) (walked w byte).stages)
    w
