-- A card's place in a rack: when it is free, all 0, or has a name; and the search for one (document 02, A.1).
use Rattle.std.specs.Prelude.{ℕ, zero, suc, Bool, true, cond, not, ◌&&◌, List, [], Option, None, Some, get_or, eqb, ltb}
use Rattle.fingerprint.specs.declared.Key.{Key}
use Rattle.fingerprint.specs.declared.Fingerprint.{Fingerprint}
use Rattle.fingerprint.specs.Fingerprint.{key_fits, same_key, no_key, same, empty}
use Rattle.lists.specs.Lists.{every}
use Rattle.signature.specs.declared.Signature.{Signature}
use Rattle.signature.specs.Signature.{places, no_signature, signature_fits}
use Rattle.stage.specs.declared.Mark.{Mark}
use Rattle.stage.specs.declared.Stage.{Stage}
use Rattle.stage.specs.Stage.{now_fits, none_fits}
use Rattle.stage.specs.Stages.{stage_count, Stages, stage_at, no_stages}
use Rattle.rack_names.specs.Names.{rack_places}
use Rattle.rack_place.specs.declared.Place.{Place}

-- A free place.
abbrev pub no_place : Place
no_place = record { name = 0; since = 0; signature = no_signature; stages = no_stages }

-- What a list of places is read as past its end; no rack is read there.
abbrev pub nowhere : Place
nowhere = record { name = 0; since = 0; signature = record { length = 0; key = no_key; prints = [] }; stages = [] }

-- A card has at least one byte, so a place whose card has none is free.
abbrev pub is_free : Place → Bool
is_free p = eqb p.signature.length 0

-- "a free place not all 0"
abbrev pub clear_prints : List Fingerprint → Bool
clear_prints prints = every (λ i. same (get_or prints i empty) empty) places

abbrev pub clear_signature : Signature → Bool
clear_signature s = eqb s.length 0 && same_key s.key no_key && clear_prints s.prints

abbrev pub clear_stage : Stage → Bool
clear_stage s = eqb s.held 0 && none_fits s

abbrev pub clear_stages : Stages → Bool
clear_stages stages = every (λ i. clear_stage (stage_at stages i)) stage_count

unfoldable pub is_clear : Place → Bool
is_clear p = eqb p.name 0 && eqb p.since 0 && clear_signature p.signature && clear_stages p.stages

-- A place is all 0, if it is free.
abbrev pub free_fits : Place → Bool
free_fits p = cond (is_free p) (is_clear p) true

-- What stands for a place in a list of names: 0 where it is free, else its name and 1.
abbrev pub label_of : Place → ℕ
label_of p = cond (is_free p) 0 (suc p.name)

-- Whether the place has a card under the name.
abbrev pub has_name : ℕ → Place → Bool
has_name name p = not (is_free p) && eqb p.name name

-- The first of n places from i on that passes a test, or the place behind them.
unfoldable pub first_place : (Place → Bool) → List Place → ℕ → ℕ → ℕ
first_place test places zero i = i
first_place test places (suc n) i = cond (test (get_or places i nowhere)) i (first_place test places n (suc i))

-- A place behind the last one is none of a rack's.
abbrev pub in_rack : ℕ → Option ℕ
in_rack i = cond (ltb i rack_places) (Some i) None

abbrev pub place_of : ℕ → List Place → ℕ
place_of name places = first_place (has_name name) places rack_places 0

abbrev pub free_place : List Place → ℕ
free_place places = first_place is_free places rack_places 0

-- The key of a rack, and t with F_t, are no misfits.
abbrev pub begun_fits : Key → Mark → Bool
begun_fits key now = key_fits key && now_fits now

-- "A card with another key is a misfit", as is a card that is one by itself.
abbrev pub card_fits : Signature → Key → Bool
card_fits card key = signature_fits card && same_key card.key key

-- A card that is put in at a count: its stages list nothing.
abbrev pub placed : ℕ → ℕ → Signature → Place
placed name since card = record { name = name; since = since; signature = card; stages = no_stages }
