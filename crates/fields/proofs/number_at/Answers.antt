-- `fields::number_at` meets its contract: a missing field counts as 0.
use mathlib.Core.Path.{sym, ◌∙◌, ap}
use Rattle.fields.specs.Calls.{number_of}
use Rattle.fields.proofs.Room.{field-number}
use Rattle.fields.proofs.number_at.Goals as goal

pub returns-in_default-clause-answer : goal.returns-in_default-clause-answer
returns-in_default-clause-answer c =
    ap number_of (sym c.in_default.is) ∙ ap number_of c.field_at.ensures.answer ∙ field-number _ _ _

pub returns-clause-answer : goal.returns-clause-answer
returns-clause-answer c =
    ap number_of (sym c.in-Some.is) ∙ ap number_of c.field_at.ensures.answer ∙ field-number _ _ _
