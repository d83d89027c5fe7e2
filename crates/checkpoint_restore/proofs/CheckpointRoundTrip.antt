-- A watch that is no misfit is resumed from its record under its card, whatever stands behind it: accepted, the watch itself, and the
-- record's length. Assumes nothing.
use Prim.Native.Nat.{ℕ, ◌+◌, ◌*◌, ◌≤◌, ◌<◌}
use mathlib.Core.Path.{◌≡◌, refl, sym, ◌∙◌, ap}
use mathlib.Core.Bool.{true, cond}
use mathlib.Core.List.{List, [], ◌∷◌, ◌++◌}
use native.Mathlib.Decide.{dec_lt}
use native.Mathlib.Omega.{arith}
use lib.Dec.{eqb}
use lib.ListN.{length, get_or, length-append}
use borrow.Author.Tests.{lt-ltb, le-ltb, eq-eqb}
use Rattle.fields.specs.Fields.{Field, values, widths, size, values_at}
use Rattle.fields.proofs.Laws.{fields_back}
use Rattle.fields.proofs.Gathered.{map-gathered, part-gathered}
use Rattle.fingerprint.specs.Fingerprint.{key_numbers, print_numbers, key_of, print_of}
use Rattle.fingerprint.proofs.Laws.{same_self, same-key-self}
use Rattle.ladder.specs.Prefix.{levels}
use Rattle.lists.proofs.Laws.{tabulated}
use Rattle.stage.specs.declared.Stage.{Stage}
use Rattle.matcher.specs.declared.Matcher.{Matcher}
use Rattle.stage.specs.Stage.{no_stage}
use Rattle.stage.specs.Stages.{stage_count, stage_at}
use Rattle.matcher.specs.Matcher.{matcher_fits, no_matcher}
use Rattle.stage.proofs.Fit.{fit-past}
use Rattle.matcher.proofs.Sound.{sound}
use Rattle.checkpoint_format.specs.declared.Format.{Format}
use Rattle.checkpoint_format.specs.declared.Format.TheVariants.{Narrow, Wide}
use Rattle.record.specs.Layout.{record_fields, print_fields, length_field, kind_of, key_from, print_from, part}
use Rattle.checkpoint_format.specs.Layout.{mark_fields, stage_fields_of, last_print, checkpoint_kind, checkpoint_body, checkpoint_widths, checkpoint_length, checkpoint_record}
use Rattle.checkpoint_format.specs.Calls.{can_say, checkpoint_least}
use Rattle.checkpoint_restore.specs.Layout.{mark_from, gap_from, stage_from, stage_field_count, stages_position, parked_values, same_pattern, stage_place, matcher_from, matcher_at}
use Rattle.checkpoint_restore.specs.Calls.{format_of, restore_refusal, restored_matcher, restore_taken}
use Rattle.record.proofs.Head.{head-accepted}
use Rattle.checkpoint_format.proofs.Fits.{watch-fields}
use Rattle.checkpoint_format.proofs.Sizes.{checkpoint-widths, checkpoint-same, checkpoint-size, checkpoint-length-is}

abbrev k : Matcher → ℕ
k w = levels w.signature.length

abbrev stage : Matcher → ℕ → Stage
stage w i = stage_at w.stages i

-- A record's kind says its format.
format-of-kind : (f : Format) → cond (eqb (checkpoint_kind f) (checkpoint_kind Narrow)) Narrow Wide ≡ f
format-of-kind Narrow = refl
format-of-kind Wide = refl

least-two : (f : Format) → 2 ≤ checkpoint_least f
least-two Narrow = omega arith
least-two Wide = omega arith

-- The values of the record's fields make the watch.
module _ (f : Format) (w : Matcher) (fits : matcher_fits w ≡ true) (sized : length w.stages ≡ stage_count) where
  field_values : List ℕ
  field_values = values (record_fields (checkpoint_body f (k w) w))

  stage-made :
      (i : ℕ) → i < k w → stage_from (part (stages_position + i * stage_field_count) stage_field_count field_values) ≡ stage w i
  unfolding field_values stage_from mark_from gap_from checkpoint_body key_numbers print_numbers print_of
  stage-made i l =
      let card = w.signature in
      let front : List ℕ =
      size (widths (checkpoint_body f (k w) w)) ∷ checkpoint_kind f ∷ card.length
      ∷ key_numbers card.key ++ values (print_fields (last_print card) ++ mark_fields f w.now)
      in
      ap stage_from
      (ap (λ (l : List ℕ). part (stages_position + i * stage_field_count) stage_field_count (front ++ l))
      (map-gathered (λ (q : Field). q.value) (stage_fields_of f w.stages) (k w))
      ∙ part-gathered (λ i. values (stage_fields_of f w.stages i)) stage_field_count (λ i. refl) front (k w) i _ l refl)

  place-made : (i : ℕ) → i < stage_count → stage w i ≡ stage_place field_values (k w) i
  place-made i l =
      elim (dec_lt i (k w)) [
        | yes h ↦ rw (lt-ltb i (k w) h) (sym (stage-made i h))
        | no h ↦
            rw (le-ltb i (k w) (omega arith))
            (fit-past w.signature.length i w.now.at w.now.at (stage w i) (omega arith) ((sound w fits).stage i l))
      ]

  watch-made : matcher_from w.signature field_values ≡ w
  unfolding field_values mark_from checkpoint_body key_numbers print_numbers print_of
  watch-made =
      λ q.
      record {
        signature = w.signature;
        now = w.now;
        stages = sym (tabulated _ stage_count no_stage w.stages sized place-made) q;
      }

module _
    (f : Format)
    (w : Matcher)
    (fits : matcher_fits w ≡ true)
    (sized : length w.stages ≡ stage_count)
    (said : can_say f w.now.at ≡ true)
    (tail : List ℕ)
  where
    values-back : parked_values f w.signature (checkpoint_record f w ++ tail) ≡ field_values f w fits sized
    unfolding field_values checkpoint_widths
    values-back =
        ap (λ (ws : List ℕ). values_at (checkpoint_record f w ++ tail) 0 ws)
        (checkpoint-widths f (k w) no_matcher ∙ sym (checkpoint-widths f (k w) w))
        ∙ fields_back [] (record_fields (checkpoint_body f (k w) w)) tail (watch-fields f w fits said)

    head-back :
        (length_field (checkpoint_record f w ++ tail) ≡ size (widths (checkpoint_body f (k w) w)))
        × (kind_of (checkpoint_record f w ++ tail) ≡ checkpoint_kind f)
    unfolding values_at checkpoint_widths checkpoint_body field_values
    head-back = (ap (λ (l : List ℕ). get_or l 0 0) values-back, ap (λ (l : List ℕ). get_or l 1 0) values-back)

    length_back : length_field (checkpoint_record f w ++ tail) ≡ checkpoint_length f (k w)
    length_back = head-back.0 ∙ checkpoint-same f (k w) w

    matcher-back : matcher_at f w.signature (checkpoint_record f w ++ tail) ≡ w
    unfolding matcher_at
    matcher-back = ap (matcher_from w.signature) values-back ∙ watch-made f w fits sized

    same-pattern : same_pattern f w.signature (checkpoint_record f w ++ tail) ≡ true
    unfolding same_pattern field_values key_from print_from checkpoint_body key_numbers print_numbers key_of print_of
    same-pattern =
        let card = w.signature in
        rw (values-back, eq-eqb card.length card.length refl, same-key-self card.key, same_self (last_print card))

    pub format_back : format_of (checkpoint_record f w ++ tail) ≡ f
    format_back = rw head-back.1 (format-of-kind f)

    pub restore-accepted : restore_refusal w.signature (checkpoint_record f w ++ tail) ≡ 0
    unfolding restore_refusal
    restore-accepted =
        let bytes : List ℕ = checkpoint_record f w ++ tail in
        let n : ℕ = checkpoint_length f (k w) in
        let size = length-append (checkpoint_record f w) tail in
        let long = checkpoint-length-is f (k w) in
        let two = least-two f in
        rw (
          (sound w fits).card,
          format_back,
          head-accepted (checkpoint_kind f) n (checkpoint_least f) bytes head-back.1 length_back (omega (arith, checkpoint-size f w))
              (omega arith) (omega arith),
          same-pattern,
          length_back,
          eq-eqb n n refl,
          matcher-back,
          fits,
        )

    pub restore-back : restored_matcher w.signature (checkpoint_record f w ++ tail) ≡ w
    unfolding restored_matcher
    restore-back = rw (restore-accepted, format_back) matcher-back

    pub restore-took : restore_taken w.signature (checkpoint_record f w ++ tail) ≡ length (checkpoint_record f w)
    unfolding restore_taken
    restore-took = rw (restore-accepted, length_back) (sym (checkpoint-size f w))
