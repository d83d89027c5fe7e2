-- `rack_place::clear_prints` meets its contract.
use mathlib.Core.Path.{◌∙◌}
use borrow.Author.Rules.{rules}
use borrow.Author.Tests.{tests}
use Rattle.std.proofs.lemmas.Iterator.{YieldsList-from_slice}
use Rattle.std.proofs.lemmas.Iterator.Search.{all_from_yields_List}
use Rattle.fingerprint.specs.Fingerprint.{same, empty}
use Rattle.signature.specs.Signature.{places}
use Rattle.rack_names.proofs.Every.{every-all}
use Rattle.rack_place.proofs.clear_prints.Goals as goal

pub returns : goal.returns
returns c =
    all_from_yields_List (λ print. same print empty) _ _ _ c.all.ensures.ran (YieldsList-from_slice c.args.prints.now cc) (λ x b q k. search (rules, tests))
    ∙ every-all (λ print. same print empty) _ empty places c.told-prints
