-- A watch, and when it misfits (document 01, "Ladder" and "Misfit").
use Rattle.std.specs.Prelude.{ℕ, Bool, cond, ◌&&◌, eqb}
use Rattle.signature.specs.declared.Signature.{Signature}
use Rattle.signature.specs.Signature.{signature_fits, no_signature}
use Rattle.stage.specs.declared.Mark.{Mark}
use Rattle.stage.specs.Stage.{origin, now_fits}
use Rattle.stage.specs.Stages.{Stages, no_stages, stages_fit, shapes_fit}
use Rattle.matcher.specs.declared.Matcher.{Matcher}

-- A watch is no misfit: its card is none, nor t with F_t, and each stage fits.
unfoldable pub matcher_fits : Matcher → Bool
matcher_fits w =
    signature_fits w.signature
    && now_fits w.now
    && stages_fit w.signature.key w.signature.length w.now.at w.stages

-- The same but for document 02's A.7: this alone keeps every number of a stroke in its range.
unfoldable pub shapely : Matcher → Bool
shapely w = signature_fits w.signature && now_fits w.now && shapes_fit w.signature.length w.now.at w.stages

-- "A fresh one has t = 0, F_t = 0 and nothing listed": 10 for a card that misfits.
abbrev pub fresh_refusal : Signature → ℕ
fresh_refusal s = cond (signature_fits s) 0 10

abbrev pub blank : Signature → Matcher
blank s = record { signature = s; now = origin; stages = no_stages }

-- the watch with another t, F_t and stages
abbrev pub moved : Matcher → Mark → Stages → Matcher
moved w now stages = record { signature = w.signature; now = now; stages = stages }

-- the watch that holds nothing
abbrev pub no_matcher : Matcher
no_matcher = blank no_signature

unfoldable pub fresh : Signature → Matcher
fresh s = cond (eqb (fresh_refusal s) 0) (blank s) no_matcher
