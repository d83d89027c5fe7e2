-- Any rack that is handed in, whatever calls or hands wrote it.
use Rattle.std.specs.Prelude.{ℕ, ◌<◌, ◌≡◌, length}
use Rattle.rack.specs.declared.Rack.{Rack}
use Rattle.rack.specs.Rack.{rack_places, name_count, place_at}

-- What its types say: 16 places, names of 16 bits.
pub record Typed (r : Rack) : Type 0 where
  pub size : length r.places ≡ rack_places
  pub names : (i : ℕ) → i < rack_places → (place_at r i).name < name_count
