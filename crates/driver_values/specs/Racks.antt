-- A rack's places, its labels and racks as numbers, one behind another (differential/calls.py).
use Rattle.std.specs.Prelude.{ℕ, ◌*◌, ◌%◌, List}
use Rattle.lists.specs.Lists.{tabulate}
use Rattle.rack.specs.declared.Rack.{Rack}
use Rattle.rack_names.specs.Names.{rack_places}
use Rattle.rack_place.specs.declared.Place.{Place}
use Rattle.driver_input.specs.Input.{number_in, numbers_from}
use Rattle.driver_values.specs.Cards.{word_in, key_in, card_in}
use Rattle.driver_values.specs.Watches.{mark_in, stages_in}

-- A place: its name in 16 bits, c, its card of 23 numbers, 20 stages of 7.
unfoldable pub place_in : List ℕ → Place
place_in s =
    record {
      name = number_in s 0 % 65536;
      since = number_in s 1;
      signature = card_in (numbers_from s 2);
      stages = stages_in (numbers_from s 25);
    }

unfoldable pub places_in : List ℕ → List Place
places_in s = tabulate (λ i. place_in (numbers_from s (165 * i))) rack_places

-- A rack: its key, t, F_t, and 16 places of 165 numbers.
unfoldable pub rack_in : List ℕ → Rack
rack_in s = record { key = key_in s 0; now = mark_in (numbers_from s 1); places = places_in (numbers_from s 3) }

-- A label for each place.
unfoldable pub labels_in : List ℕ → List ℕ
labels_in s = tabulate (word_in s) rack_places
