-- A rack and when it misfits; putting a card in, taking one out, and a stroke (document 02, A.1).
use Rattle.std.specs.Prelude.{ℕ, zero, suc, Bool, cond, not, ◌&&◌, ◌||◌, List, map, get_or, set, replicate, leb, ltb, eqb}
use Rattle.fingerprint.specs.declared.Key.{Key}
use Rattle.fingerprint.specs.Fingerprint.{key_fits, same_key, no_key}
use Rattle.lists.specs.Lists.{every, tabulate, chosen}
use Rattle.signature.specs.declared.Signature.{Signature}
use Rattle.signature.specs.Signature.{signature_fits}
use Rattle.stage.specs.declared.Mark.{Mark}
use Rattle.matcher.specs.declared.Matcher.{Matcher}
use Rattle.stage.specs.Stage.{max_taken, origin, now_fits, next_mark}
use Rattle.stage.specs.Stages.{no_stages, stages_fit}
pub use Rattle.stage.specs.Stages.{listed_from, all_from}
use Rattle.matcher.specs.Stroke.{stroke_answer, after_stroke}
pub use Rattle.rack_names.specs.Names.{rack_places, name_count}
use Rattle.rack_place.specs.declared.Place.{Place}
pub use Rattle.rack_place.specs.Place.{no_place, nowhere, is_free, has_name, place_of, free_place}
unfoldable pub use Rattle.rack_place.specs.Place.{is_clear, first_place}
use Rattle.rack_report.specs.declared.Report.{Report}
use Rattle.rack_report.specs.declared.Reports.{Reports}
pub use Rattle.rack_report.specs.Report.{no_report, no_reports, handed_out}
unfoldable pub use Rattle.rack_report.specs.Report.{comparisons_of, filled}
use Rattle.rack.specs.declared.Rack.{Rack}

-- "A card with another key is a misfit, as is a rack with a card or stage astray, .. c above t, a start below c".
unfoldable pub used_fits : Key → ℕ → Place → Bool
used_fits key t p =
    signature_fits p.signature
    && same_key p.signature.key key
    && leb p.since t
    && stages_fit p.signature.key p.signature.length t p.stages
    && all_from p.since p.stages

abbrev pub place_fits : Key → ℕ → Place → Bool
place_fits key t p = cond (is_free p) (is_clear p) (used_fits key t p)

-- "a name twice"
abbrev pub apart : Place → Place → Bool
apart p q = is_free p || is_free q || not (eqb p.name q.name)

-- the places below i, each against the place
abbrev pub apart_from : List Place → ℕ → Place → Bool
apart_from places i p = every (λ j. apart p (get_or places j nowhere)) i

abbrev pub places_fit : Key → ℕ → List Place → Bool
places_fit key t places = every (λ i. place_fits key t (get_or places i nowhere)) rack_places

abbrev pub names_apart : List Place → Bool
names_apart places = every (λ i. apart_from places i (get_or places i nowhere)) rack_places

abbrev pub place_at : Rack → ℕ → Place
place_at r i = get_or r.places i nowhere

unfoldable pub rack_fits : Rack → Bool
rack_fits r =
    key_fits r.key
    && now_fits r.now
    && places_fit r.key r.now.at r.places
    && names_apart r.places

-- "A rack is begun with a key, which refusal 3 judges."
abbrev pub rack_begin_refusal : Key → ℕ
rack_begin_refusal key = cond (key_fits key) 0 3

abbrev pub empty_rack : Key → Rack
empty_rack key = record { key = key; now = origin; places = replicate rack_places no_place }

unfoldable pub rack_begun : Key → Rack
rack_begun key = cond (key_fits key) (empty_rack key) (empty_rack no_key)

-- Whether a card is in under the name, and the place that has it.
abbrev pub is_in : ℕ → List Place → Bool
is_in name places = ltb (place_of name places) rack_places

abbrev pub place_named : ℕ → List Place → Place
place_named name places = get_or places (place_of name places) nowhere

-- The names that are in, in rising order.
abbrev pub names_in : List Place → List ℕ
names_in places = chosen (λ name. is_in name places) 0 name_count

-- How many cards are in: how many of the places below i are not free, and of all.
unfoldable pub cards_below : List Place → ℕ → ℕ
cards_below places zero = 0
cards_below places (suc i) = cond (is_free (get_or places i nowhere)) (cards_below places i) (suc (cards_below places i))

abbrev pub cards_in : List Place → ℕ
cards_in places = cards_below places rack_places

-- "12 for putting a card in when 16 are in, 13 when a name put in is already there ..; 10 comes first, then 13 before 12."
abbrev pub put_in_refusal : Rack → ℕ → Signature → ℕ
put_in_refusal r name card =
    cond (rack_fits r && signature_fits card && same_key card.key r.key)
    (cond (is_in name r.places) 13 (cond (ltb (free_place r.places) rack_places) 0 12)) 10

-- "A card put in at count c is matched only for starts from c on"; "a freed place serves again".
unfoldable pub put_in : Rack → ℕ → Signature → Rack
put_in r name card =
    cond (eqb (put_in_refusal r name card) 0)
    (record {
      key = r.key;
      now = r.now;
      places = set r.places (free_place r.places) (record { name = name; since = r.now.at; signature = card; stages = no_stages });
    })
    r

-- "14 when a name taken out is absent"
abbrev pub take_out_refusal : Rack → ℕ → ℕ
take_out_refusal r name = cond (rack_fits r) (cond (is_in name r.places) 0 14) 10

-- "taking it out drops its starts without a report"
unfoldable pub taken_out : Rack → ℕ → Rack
taken_out r name =
    cond (eqb (take_out_refusal r name) 0)
    (record { key = r.key; now = r.now; places = set r.places (place_of name r.places) no_place })
    r

-- A place as a watch of its own: "sharing t and F_t".
abbrev pub watch_at : Mark → Place → Matcher
watch_at now p = record { signature = p.signature; now = now; stages = p.stages }

-- The stroke's refusals: 10 misfit, 6 spent.
abbrev pub rack_stroke_refusal : Rack → ℕ
rack_stroke_refusal r = cond (rack_fits r) (cond (ltb r.now.at max_taken) 0 6) 10

-- The place once a byte was taken: a free one stays free, and a card's stages go on as those of its watch.
unfoldable pub struck_place : Mark → ℕ → Place → Place
struck_place now byte p =
    cond (is_free p) p
    (record { name = p.name; since = p.since; signature = p.signature; stages = (after_stroke (watch_at now p) byte).stages })

abbrev pub struck_places : Mark → ℕ → List Place → List Place
struck_places now byte places = tabulate (λ i. struck_place now byte (get_or places i nowhere)) rack_places

unfoldable pub after_rack_stroke : Rack → ℕ → Rack
after_rack_stroke r byte =
    cond (eqb (rack_stroke_refusal r) 0)
    (record { key = r.key; now = next_mark r.key r.now byte; places = struck_places r.now byte r.places })
    r

-- What a name that is in says of the byte: what its watch says of it.
abbrev pub report_in : Mark → List Place → ℕ → ℕ → Report
report_in now places byte name = record { name = name; answer = stroke_answer (watch_at now (place_named name places)) byte }

abbrev pub report_of : Rack → ℕ → ℕ → Report
report_of r byte name = report_in r.now r.places byte name

-- "Reports at one byte go by rising name": one for each name that is in, also where it has nothing to say.
unfoldable pub reports_of : Rack → ℕ → List Report
reports_of r byte = map (report_of r byte) (names_in r.places)

-- What the byte brings to all names; nothing where it is refused.
unfoldable pub rack_reports : Rack → ℕ → Reports
rack_reports r byte = cond (eqb (rack_stroke_refusal r) 0) (handed_out (reports_of r byte)) no_reports
