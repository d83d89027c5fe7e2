-- How many cards are in a rack: as many as there are names in it, and fewer than 16 where a place is free.
-- Assumes nothing.
use mathlib.Core.Path.{◌≡◌}
use mathlib.Core.Bool.{true}
use lib.Dec.{ltb}
use lib.ListN.{length}
use Rattle.rack.specs.declared.Rack.{Rack}
use Rattle.rack.specs.Rack.{rack_places, name_count, free_place, names_in, cards_in, rack_fits}
use Rattle.rack.proofs.Counts.{free-where, names-among}
use Rattle.rack_run.specs.AnyRack.{Typed}
use Rattle.rack_run.proofs.Sound.{sound-rack}

module _ (r : Rack) (fits : rack_fits r ≡ true) (typed : Typed r) where
  pub in_count : length (names_in r.places) ≡ cards_in r.places
  in_count = names-among r.places name_count rack_places typed.names (sound-rack r fits).apart

  pub not_full : ltb (free_place r.places) rack_places ≡ ltb (length (names_in r.places)) rack_places
  not_full = rw in_count (free-where r.places)
