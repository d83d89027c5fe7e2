-- M1 to M12 hold: what the definition gives in each case of the list is what document 01 says.
use mathlib.Core.Path.{◌≡◌, refl, ◌∙◌, ap, sym}
use mathlib.Core.Bool.{Bool, true, ◌&&◌}
use mathlib.Core.List.{List, [], ◌∷◌, Memᴰ}
use lib.Dec.{eqb}
use borrow.Author.Tests.{eqb-true}
use Rattle.lists.proofs.Laws.{and_left, and_right}
use Rattle.fingerprint.specs.Fingerprint.{key_fits, print_fits, same, extended, is_byte_print, joined_times}
use Rattle.ladder.specs.Prefix.{least_from, levels}
use Rattle.ladder.specs.Ladder.{lists, without, last_of, enter, promote, compare, visit, descend, step, after, answer_at}
use Rattle.lists.specs.Lists.{every, tabulate}
use Rattle.signature.specs.Signature.{prints_fit, signature_fits, signature_of}
use Rattle.stage.specs.Stage.{none_fits, one_fits, many_fit, shape_fits, last_fits, stage_fits, taken_off, entered}
use Rattle.matcher.specs.Matcher.{matcher_fits, fresh}
use Rattle.walk.specs.Walk.{promoted_under, tried, visited, descended, walked_from}
use Rattle.matcher.specs.Stroke.{stroke_answer, after_stroke}
use Rattle.edge_cases.specs.EdgeCases.{Case, struck_ring, same_bytes, cases}

-- one test over the list: in each case got is want
all_hold : List Case → Bool
all_hold [] = true
all_hold (c ∷ more) = eqb c.got c.want && all_hold more

-- the test tells of each case
each_holds : {c : Case} {l : List Case} → Memᴰ c l → all_hold l ≡ true → c.got ≡ c.want
unfolding all_hold
each_holds (Memᴰ.head {x = d} {xs = more} e) h =
    ap (λ (x : Case). x.got) e
    ∙ eqb-true d.got d.want (and_left (eqb d.got d.want) (all_hold more) h)
    ∙ sym (ap (λ (x : Case). x.want) e)
each_holds (Memᴰ.tail {x = d} {xs = more} m) h =
    each_holds m (and_right (eqb d.got d.want) (all_hold more) h)

-- Every case of the list holds.
pub cases-hold : (c : Case) → Memᴰ c cases → c.got ≡ c.want
unfolding all_hold cases struck_ring same_bytes key_fits print_fits same extended is_byte_print least_from levels lists without last_of enter promote compare visit descend step after answer_at every tabulate prints_fit signature_fits signature_of none_fits one_fits many_fit shape_fits last_fits joined_times stage_fits matcher_fits fresh taken_off entered promoted_under tried visited descended walked_from stroke_answer after_stroke
cases-hold c m = each_holds m refl
