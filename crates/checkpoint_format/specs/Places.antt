-- Sizes and places in bytes as the code has them: those of the field lists.
use Rattle.std.specs.Prelude.{ℕ, ◌+◌}
use Rattle.record.specs.Layout.{word_width}
use Rattle.record.specs.Places.{print_size, print_place}
use Rattle.checkpoint_format.specs.Layout.{place_width}
use Rattle.checkpoint_format.specs.declared.Format.{Format}
use Rattle.checkpoint_format.specs.declared.Format.TheVariants.{Narrow, Wide}

abbrev pub mark_size : Format → ℕ
mark_size f = place_width f + print_size

abbrev pub gap_size : ℕ
gap_size = word_width + print_size

abbrev pub stage_size : Format → ℕ
stage_size f = word_width + mark_size f + mark_size f + gap_size

abbrev pub now_place : ℕ
now_place = print_place + print_size

abbrev pub stages_place : Format → ℕ
stages_place f = now_place + mark_size f

-- "at most 586 bytes with the length field"; a wide record, whose "length is 26 + 36k", has at most 750.
abbrev pub longest_checkpoint : Format → ℕ
longest_checkpoint Narrow = 586
longest_checkpoint Wide = 750

-- "a parked record of m = 1 has 26 bytes"; a wide one: "at m = 1 the whole takes 30 bytes".
abbrev pub shortest_checkpoint : Format → ℕ
shortest_checkpoint Narrow = 26
shortest_checkpoint Wide = 30
