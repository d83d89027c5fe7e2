-- `rack_place::place_of` meets its contract.
use mathlib.Core.Path.{◌≡◌, ◌∙◌}
use borrow.Author.Rules.{rules}
use borrow.Author.Tests.{tests}
use lib.ListN.{length}
use Rattle.std.proofs.lemmas.Iterator.{YieldsList-from_slice}
use Rattle.std.proofs.lemmas.Iterator.Search.{position_from_yields_List}
use Rattle.lists.proofs.Laws.{counted-elements}
use Rattle.rack_names.specs.Names.{rack_places}
use Rattle.rack_place.specs.Place.{has_name}
use Rattle.rack_place.proofs.Finding.{first-found}
use Rattle.rack_place.proofs.place_of.Goals as goal

pub returns : goal.returns
returns c =
    let whole : length c.args.places ≡ rack_places = search (counted-elements, rules) in
    position_from_yields_List (has_name c.args.name) _ _ _ c.position.ensures.ran (YieldsList-from_slice c.args.places cc) (λ x b q k. search (rules, tests))
    ∙ first-found (has_name c.args.name) c.args.places whole
