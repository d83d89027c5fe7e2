-- What the values of the fields of a parked watch's record make, under a card (document 01, "Records").
use Rattle.std.specs.Prelude.{ℕ, ◌+◌, ◌*◌, Bool, cond, ◌&&◌, List, length, get_or, ltb, eqb}
use Rattle.fields.specs.Fields.{values_at}
use Rattle.fingerprint.specs.Fingerprint.{same, print_of, same_key}
use Rattle.ladder.specs.Prefix.{levels}
use Rattle.lists.specs.Lists.{tabulate}
use Rattle.signature.specs.declared.Signature.{Signature}
use Rattle.stage.specs.declared.Mark.{Mark}
use Rattle.stage.specs.declared.Gap.{Gap}
use Rattle.stage.specs.declared.Stage.{Stage}
use Rattle.matcher.specs.declared.Matcher.{Matcher}
use Rattle.stage.specs.Stage.{origin, no_gap, no_stage}
use Rattle.stage.specs.Stages.{stage_count}
use Rattle.record.specs.Layout.{print_count, m_position, print_position, part, key_from, print_from}
use Rattle.checkpoint_format.specs.Layout.{mark_fields, gap_fields, stage_fields, last_print, checkpoint_widths}
use Rattle.checkpoint_format.specs.declared.Format.{Format}
use Rattle.checkpoint_format.specs.declared.Format.TheVariants.{Wide}

-- How many fields a mark, a gap and a stage have, in wide records as in narrow ones, and which fields of a record are which.
abbrev pub mark_count : ℕ
mark_count = length (mark_fields Wide origin)

abbrev pub gap_count : ℕ
gap_count = length (gap_fields no_gap)

abbrev pub stage_field_count : ℕ
stage_field_count = length (stage_fields Wide no_stage)

abbrev pub now_position : ℕ
now_position = print_position + print_count

abbrev pub stages_position : ℕ
stages_position = now_position + mark_count

-- What the values of fields make.
unfoldable pub mark_from : List ℕ → Mark
mark_from values = record { at = get_or values 0 0; print = print_of (part 1 print_count values) }

unfoldable pub gap_from : List ℕ → Gap
gap_from values = record { length = get_or values 0 0; print = print_of (part 1 print_count values) }

unfoldable pub stage_from : List ℕ → Stage
stage_from values =
    record {
      held = get_or values 0 0;
      first = mark_from (part 1 mark_count values);
      last = mark_from (part (1 + mark_count) mark_count values);
      step = gap_from (part (1 + mark_count + mark_count) gap_count values);
    }

-- The values of a parked watch's record under a card, and whether they have the card's m, r and last fingerprint.
abbrev pub parked_values : Format → Signature → List ℕ → List ℕ
parked_values f card s = values_at s 0 (checkpoint_widths f (levels card.length))

unfoldable pub same_pattern : Format → Signature → List ℕ → Bool
same_pattern f card s =
    eqb (get_or (parked_values f card s) m_position 0) card.length
    && same_key (key_from (parked_values f card s)) card.key
    && same (print_from (parked_values f card s) 0) (last_print card)

-- The watch that they make under the card: nothing listed past stage k-1.
abbrev pub stage_place : List ℕ → ℕ → ℕ → Stage
stage_place values k i =
    cond (ltb i k) (stage_from (part (stages_position + i * stage_field_count) stage_field_count values)) no_stage

abbrev pub matcher_from : Signature → List ℕ → Matcher
matcher_from card values =
    record {
      signature = card;
      now = mark_from (part now_position mark_count values);
      stages = tabulate (stage_place values (levels card.length)) stage_count;
    }

unfoldable pub matcher_at : Format → Signature → List ℕ → Matcher
matcher_at f card s = matcher_from card (parked_values f card s)
