-- One byte for a watch that shares its key, t and F_t with others (document 02, A.1).
use Rattle.std.specs.Prelude.{ℕ, Bool, cond, ◌&&◌, leb, ltb, eqb}
use Rattle.fingerprint.specs.declared.Key.{Key}
use Rattle.fingerprint.specs.Fingerprint.{same_key}
use Rattle.stage.specs.Stage.{max_taken}
use Rattle.stage.specs.Stages.{Stages, all_from}
use Rattle.walk.specs.declared.Answer.{Answer}
use Rattle.walk.specs.Walk.{no_answer}
use Rattle.matcher.specs.declared.Matcher.{Matcher}
use Rattle.matcher.specs.Matcher.{matcher_fits}
use Rattle.matcher.specs.Stroke.{stroke_answer, after_stroke}

-- "A card with another key is a misfit, as is .. c above t, a start below c": among others that share the key, since the count c.
abbrev pub shared_fits : Key → ℕ → Matcher → Bool
shared_fits key c w = same_key w.signature.key key && leb c w.now.at && matcher_fits w && all_from c w.stages

-- The stroke's refusals: 10 misfit, 6 spent.
abbrev pub shared_refusal : Key → ℕ → Matcher → ℕ
shared_refusal key c w = cond (shared_fits key c w) (cond (ltb w.now.at max_taken) 0 6) 10

-- What the byte brings: the watch's own answer and its stages then; no answer and the stages as they were where it is refused.
unfoldable pub shared_answer : Key → ℕ → Matcher → ℕ → Answer
shared_answer key c w byte = cond (eqb (shared_refusal key c w) 0) (stroke_answer w byte) no_answer

unfoldable pub shared_stages : Key → ℕ → Matcher → ℕ → Stages
shared_stages key c w byte = cond (eqb (shared_refusal key c w) 0) (after_stroke w byte).stages w.stages
