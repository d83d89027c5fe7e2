-- What a record can say, and the least length field that it can have.
use Rattle.std.specs.Prelude.{ℕ, Bool, true, leb}
use Rattle.checkpoint_format.specs.declared.Format.{Format}
use Rattle.checkpoint_format.specs.declared.Format.TheVariants.{Narrow, Wide}

-- "A narrow record can be written from a wide watch while t is at most 4294967295".
abbrev pub max_narrow : ℕ
max_narrow = 4294967295

abbrev pub can_say : Format → ℕ → Bool
can_say Narrow t = leb t max_narrow
can_say Wide t = true

-- "length .. under .. 22 for a watch"; of a wide record "under 26 is too small" (A.5)
abbrev pub checkpoint_least : Format → ℕ
checkpoint_least Narrow = 22
checkpoint_least Wide = 26
