-- `rack_place::clear_stages` meets its contract.
use mathlib.Core.Path.{◌∙◌}
use borrow.Author.Rules.{rules}
use borrow.Author.Tests.{tests}
use Rattle.std.proofs.lemmas.Iterator.{YieldsList-from_slice}
use Rattle.std.proofs.lemmas.Iterator.Search.{all_from_yields_List}
use Rattle.stage.specs.Stage.{no_stage}
use Rattle.stage.specs.Stages.{stage_count}
use Rattle.rack_place.specs.Place.{clear_stage}
use Rattle.rack_names.proofs.Every.{every-all}
use Rattle.rack_place.proofs.clear_stages.Goals as goal

pub returns : goal.returns
returns c =
    all_from_yields_List clear_stage _ _ _ c.all.ensures.ran (YieldsList-from_slice c.args.stages.now cc) (λ x b q k. search (rules, tests))
    ∙ every-all clear_stage _ no_stage stage_count c.told-stages
