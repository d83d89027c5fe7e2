-- Where the code finds t with F_t and a watch's stages: at the places of their fields in the record.
-- Assumes nothing.
use Prim.Native.Nat.{ℕ, ◌+◌, ◌*◌, ◌<◌}
use mathlib.Core.Path.{◌≡◌, refl, ◌∙◌, ap}
use mathlib.Core.Bool.{◌&&◌}
use mathlib.Core.List.{List}
use native.Mathlib.Omega.{arith}
use lib.Dec.{eqb}
use Rattle.fields.specs.Fields.{widths, size, number_at, values_at}
use Rattle.fields.proofs.Gathered.{values-gathered}
use Rattle.fingerprint.specs.Fingerprint.{empty, same, key_numbers, print_numbers, key_of, print_of, no_key, same_key}
use Rattle.signature.specs.declared.Signature.{Signature}
use Rattle.stage.specs.Stage.{origin, no_gap, no_stage}
use Rattle.matcher.specs.Matcher.{no_matcher}
use Rattle.checkpoint_format.specs.declared.Format.{Format}
use Rattle.record.specs.Layout.{key_fields, print_fields, key_from, print_from, pattern_length, word_width, part}
use Rattle.record.specs.Places.{key_place, print_size, print_place}
use Rattle.checkpoint_format.specs.Layout.{last_print, place_width, mark_fields, gap_fields, stage_fields, checkpoint_body, checkpoint_widths}
use Rattle.checkpoint_format.specs.Places.{mark_size, stage_size, now_place, stages_place}
use Rattle.checkpoint_restore.specs.Layout.{same_pattern, mark_from, gap_from, stage_from, stage_field_count, mark_count, now_position, stages_position}
use Rattle.checkpoint_format.proofs.Sizes.{checkpoint_front, stage_widths, checkpoint-widths, stage-size}

module _ (f : Format) (s : List ℕ) (k : ℕ) where
  pub now-place :
      part now_position mark_count (values_at s 0 (checkpoint_widths f k)) ≡ values_at s now_place (widths (mark_fields f origin))
  unfolding values_at checkpoint_body checkpoint_widths key_numbers print_numbers
  now-place = refl

  pub stage-place :
      (i : ℕ)
      → i < k
      → part (stages_position + i * stage_field_count) stage_field_count (values_at s 0 (checkpoint_widths f k))
      ≡ values_at s (stages_place f + stage_size f * i) (widths (stage_fields f no_stage))
  unfolding size key_numbers print_numbers checkpoint_widths
  stage-place i l =
      ap (λ (ws : List ℕ). part (stages_position + i * stage_field_count) stage_field_count (values_at s 0 ws)) (checkpoint-widths f k no_matcher)
      ∙ values-gathered (stage_widths f) (stage_size f) (λ j. stage-size f no_stage) s (checkpoint_front f) stage_field_count k i _ _
      (λ j. refl) l refl (omega arith)

-- The parts of a stage stand one behind another.
pub stage-parts :
    (f : Format) (s : List ℕ) (at : ℕ)
    → stage_from (values_at s at (widths (stage_fields f no_stage)))
    ≡ record {
      held = number_at s at word_width;
      first = mark_from (values_at s (at + word_width) (widths (mark_fields f origin)));
      last = mark_from (values_at s (at + word_width + mark_size f) (widths (mark_fields f origin)));
      step = gap_from (values_at s (at + word_width + 2 * mark_size f) (widths (gap_fields no_gap)));
    }
unfolding values_at stage_from mark_from gap_from print_numbers
stage-parts f s at =
    let last : at + word_width + mark_size f ≡ at + word_width + place_width f + print_size = omega arith in
    let step : at + word_width + 2 * mark_size f ≡ at + word_width + place_width f + print_size + place_width f + print_size = omega arith in
    rw (last, step)

-- "m, r or last fingerprint differs from the card": where they stand.
pub pattern-tests :
    (f : Format) (card : Signature) (s : List ℕ)
    → same_pattern f card s
    ≡ eqb (pattern_length s) card.length
    && same_key (key_of (values_at s key_place (widths (key_fields no_key)))) card.key
    && same (print_of (values_at s print_place (widths (print_fields empty)))) (last_print card)
unfolding same_pattern key_from print_from values_at checkpoint_widths checkpoint_body key_numbers print_numbers
pattern-tests f card s = refl
