-- A watch that was resumed from a record can be written in the record's own format, which brings back the very bytes that were read,
-- "narrowing what was widened" (document 02, A.5) among them; and what is written of a watch in either format is resumed as this watch.
-- Assumes nothing.
use Prim.Native.Nat.{ℕ, ◌+◌, ◌*◌, ◌≤◌, ◌<◌}
use mathlib.Core.Path.{◌≡◌, refl, sym, ◌∙◌, ap, subst}
use mathlib.Core.Bool.{true}
use mathlib.Core.List.{List, [], ◌∷◌, ◌++◌}
use native.Mathlib.Omega.{arith}
use lib.Dec.{eqb}
use lib.ListN.{length, take, drop}
use lib.Seq.{take_at, length-take-le}
use borrow.Author.Tests.{eqb-true, le-leb, lt-ltb, eq-eqb}
use Rattle.fields.specs.Fields.{Field, values, widths, size, number_at, values_at, gathered}
use Rattle.fields.proofs.Laws.{values-append}
use Rattle.fields.proofs.Gathered.{map-gathered}
use Rattle.fields.proofs.Again.{number_small, fields-again, values-spread, gathered-same}
use Rattle.fingerprint.specs.Fingerprint.{empty, same, key_numbers, print_numbers, key_of, print_of, no_key, same_key}
use Rattle.fingerprint.proofs.Laws.{same-eq, same-key-eq}
use Rattle.ladder.specs.Prefix.{levels}
use Rattle.ladder.proofs.Levels.{levels-bound}
use Rattle.lists.specs.Lists.{Bytes}
use Rattle.lists.proofs.Cases.{each}
use Rattle.lists.proofs.Laws.{length-tabulate, get_d_tabulate}
use Rattle.signature.specs.declared.Signature.{Signature}
use Rattle.signature.proofs.Card.{sound-card}
use Rattle.stage.specs.Stage.{no_stage}
use Rattle.stage.specs.Stages.{stage_count}
use Rattle.matcher.specs.declared.Matcher.{Matcher}
use Rattle.matcher.specs.Matcher.{matcher_fits}
use Rattle.checkpoint_format.specs.declared.Format.{Format}
use Rattle.checkpoint_format.specs.declared.Format.TheVariants.{Narrow, Wide}
use Rattle.record.specs.Layout.{length_width, record_fields, key_fields, print_fields, length_field, kind_of, pattern_length}
use Rattle.record.specs.Places.{key_place, print_place}
use Rattle.checkpoint_format.specs.Layout.{place_width, stage_fields, stage_fields_of, last_print, checkpoint_kind, checkpoint_body, checkpoint_widths, checkpoint_record}
use Rattle.checkpoint_format.specs.Places.{now_place, stage_size, stages_place}
use Rattle.checkpoint_format.specs.Calls.{max_narrow, can_say}
use Rattle.checkpoint_save.specs.Calls.{watch_judged, save_refusal, save_used, save_buffer}
use Rattle.checkpoint_restore.specs.Layout.{mark_from, gap_from, stage_from, stage_place, parked_values, matcher_at}
use Rattle.checkpoint_restore.specs.Calls.{format_of, restore_refusal, restored_matcher, restore_taken}
use Rattle.record.proofs.Accepted.{put-passed}
use Rattle.checkpoint_format.proofs.Sizes.{checkpoint_front, stage_widths, stage-size, checkpoint-widths, checkpoint-same}
use Rattle.checkpoint_save.proofs.Accepted.{judged-passed}
use Rattle.checkpoint_restore.proofs.Accepted.{Resumes, resumes}
use Rattle.checkpoint_restore.proofs.CheckpointRoundTrip.{restore-accepted, restore-back, restore-took}
use Rattle.checkpoint_restore.proofs.Positions.{stage-place, pattern-tests}

-- A stage's fields are those that it was read from.
stage-again :
    (f : Format) (s : List ℕ) (at : ℕ)
    → values (stage_fields f (stage_from (values_at s at (widths (stage_fields f no_stage))))) ≡ values_at s at (widths (stage_fields f no_stage))
unfolding values_at stage_from mark_from gap_from print_numbers print_of
stage-again f s at = refl

module _ (f : Format) (card : Signature) (s : List ℕ) (r : Resumes f card s) where
  abbrev k : ℕ
  k = levels card.length

  abbrev watch : Matcher
  watch = matcher_at f card s

  few : k ≤ stage_count
  few = levels-bound card.length (sound-card card r.fits).short

  stages-again :
      (i : ℕ) → i < k → values (stage_fields_of f watch.stages i) ≡ values_at s (stages_place f + i * stage_size f) (stage_widths f i)
  unfolding matcher_at
  stages-again i l =
      let place : stages_place f + stage_size f * i ≡ stages_place f + i * stage_size f = omega arith in
      rw (
        get_d_tabulate (stage_place (parked_values f card s) k) stage_count i no_stage (omega (arith, few)),
        lt-ltb i k l,
        stage-place f s k i l,
        place,
      )
      (stage-again f s (stages_place f + i * stage_size f))

  -- What stands before the stages: the length, the kind and the card's numbers are those that were tested.
  abbrev front_values : List ℕ
  front_values =
      size (widths (checkpoint_body f k watch)) ∷ checkpoint_kind f ∷ card.length
      ∷ key_numbers card.key ++ print_numbers (last_print card) ++ (watch.now.at ∷ print_numbers watch.now.print)

  front-again : front_values ≡ values_at s 0 (checkpoint_front f)
  unfolding values_at matcher_at mark_from checkpoint_widths checkpoint_body key_numbers print_numbers key_of print_of
  front-again =
      let key = key_of (values_at s key_place (widths (key_fields no_key))) in
      let last = print_of (values_at s print_place (widths (print_fields empty))) in
      let q =
      each (eqb (pattern_length s) card.length) (same_key key card.key ∷ same last (last_print card) ∷ [])
      (sym (pattern-tests f card s) ∙ r.pattern)
      in
      let long = checkpoint-same f k watch ∙ sym r.long in
      let m = eqb-true _ _ q.0 in
      let keys = ap key_numbers (sym (same-key-eq key card.key q.1.0)) in
      let prints = ap print_numbers (sym (same-eq last (last_print card) q.1.1.0)) in
      λ i.
      long i ∷ sym r.kind i ∷ sym m i ∷ keys i ++ prints i ++ (watch.now.at ∷ print_numbers watch.now.print)

  values-again :
      values (record_fields (checkpoint_body f k watch)) ≡ values_at s 0 (widths (record_fields (checkpoint_body f k watch)))
  unfolding checkpoint_body matcher_at key_numbers print_numbers size
  values-again =
      let from : ℕ = 0 + size (checkpoint_front f) in
      let begins : from ≡ stages_place f = omega arith in
      let parts : ℕ → List ℕ = λ i. values_at s (stages_place f + i * stage_size f) (stage_widths f i) in
      let read : values_at s 0 (widths (record_fields (checkpoint_body f k watch))) ≡ values_at s 0 (checkpoint_front f) ++ gathered parts k =
      ap (values_at s 0) (checkpoint-widths f k watch)
      ∙ values-append s 0 (checkpoint_front f) (gathered (stage_widths f) k)
      ∙ rw begins
      (ap (λ (l : List ℕ). values_at s 0 (checkpoint_front f) ++ l)
      (values-spread (stage_widths f) (stage_size f) (λ i. stage-size f no_stage) s (stages_place f) k))
      in
      ap (λ (l : List ℕ). front_values ++ l)
      (map-gathered (λ (q : Field). q.value) (stage_fields_of f watch.stages) k
      ∙ gathered-same (λ i. values (stage_fields_of f watch.stages i)) parts k stages-again)
      ∙ ap (λ (l : List ℕ). l ++ gathered parts k) front-again
      ∙ sym read

  record-again : Bytes s → checkpoint_record f watch ≡ take (length_field s + length_width) s
  unfolding matcher_at size
  record-again bytes =
      let whole : length_width + size (widths (checkpoint_body f k watch)) ≡ length_field s + length_width =
      omega (arith, checkpoint-same f k watch, r.long)
      in
      fields-again s bytes (record_fields (checkpoint_body f k watch)) 0 values-again (omega (arith, whole, r.room))
      ∙ ap (λ (n : ℕ). take n s) whole

-- A t that was read from a narrow record's bytes can be said in them.
said-again : (f : Format) (card : Signature) (s : List ℕ) → Bytes s → can_say f (matcher_at f card s).now.at ≡ true
unfolding matcher_at mark_from values_at checkpoint_widths checkpoint_body key_numbers print_numbers
said-again Narrow card s bytes =
    le-leb (number_at s now_place (place_width Narrow)) max_narrow (omega (arith, number_small s bytes now_place (place_width Narrow)))
said-again Wide card s bytes = refl

module _ (card : Signature) (s : List ℕ) (accepted : restore_refusal card s ≡ 0) where
  restored : restored_matcher card s ≡ matcher_at (format_of s) card s
  unfolding restored_matcher
  restored = rw accepted

  taken : restore_taken card s ≡ length_field s + length_width
  unfolding restore_taken
  taken = rw accepted

  module _ (bytes : Bytes s) where
    -- Writing the record of the format that was read is not refused but for want of space, and gives the bytes that were read.
    pub judged-again : watch_judged (format_of s) (restored_matcher card s) ≡ 0
    judged-again = rw (restored, (resumes card s accepted).watch, said-again (format_of s) card s bytes)

    pub written-again : checkpoint_record (format_of s) (restored_matcher card s) ≡ take (restore_taken card s) s
    written-again = rw (restored, taken) (record-again (format_of s) card s (resumes card s accepted) bytes)

    -- the call that writes it: so many bytes are used, and they are those
    pub saved-again :
        (entry : List ℕ)
        → save_refusal (format_of s) (restored_matcher card s) entry ≡ 0
        → (save_used (format_of s) (restored_matcher card s) entry ≡ restore_taken card s)
        × (take (restore_taken card s) (save_buffer (format_of s) (restored_matcher card s) entry) ≡ take (restore_taken card s) s)
    saved-again entry e =
        let n : ℕ = restore_taken card s in
        let within : n ≤ length s = rw taken (resumes card s accepted).room in
        let size : length (take n s) ≡ n = length-take-le n s within in
        rw (e, written-again) (size, take_at (take n s) (drop (length (take n s)) entry) n size)

    -- A narrow record that was resumed is written narrow again, without refusal 18.
    module _ (narrow : kind_of s ≡ checkpoint_kind Narrow) where
      format : format_of s ≡ Narrow
      format = rw (eq-eqb (kind_of s) (checkpoint_kind Narrow) narrow)

      pub narrow-judged : watch_judged Narrow (restored_matcher card s) ≡ 0
      narrow-judged = rw format at judged-again

      pub narrow-written : checkpoint_record Narrow (restored_matcher card s) ≡ take (restore_taken card s) s
      narrow-written = rw format at written-again

      pub narrow-saved :
          (entry : List ℕ)
          → save_refusal Narrow (restored_matcher card s) entry ≡ 0
          → (save_used Narrow (restored_matcher card s) entry ≡ restore_taken card s)
          × (take (restore_taken card s) (save_buffer Narrow (restored_matcher card s) entry) ≡ take (restore_taken card s) s)
      narrow-saved = rw format at saved-again

      -- and so it is where a wide record of the watch was written and resumed in between
      pub widened-written :
          (tail : List ℕ)
          → (restore_refusal card (checkpoint_record Wide (restored_matcher card s) ++ tail) ≡ 0)
          × (checkpoint_record Narrow (restored_matcher card (checkpoint_record Wide (restored_matcher card s) ++ tail))
          ≡ take (restore_taken card s) s)
      unfolding matcher_at
      widened-written tail =
          let w : Matcher = restored_matcher card s in
          let fits : matcher_fits w ≡ true = rw restored (resumes card s accepted).watch in
          let sized : length w.stages ≡ stage_count = rw restored (length-tabulate _ stage_count) in
          let own : w.signature ≡ card = rw restored in
          let wide : List ℕ = checkpoint_record Wide w ++ tail in
          let back : restored_matcher card wide ≡ w =
          subst (λ (c : Signature). restored_matcher c wide ≡ w) own (restore-back Wide w fits sized refl tail)
          in (
            subst (λ (c : Signature). restore_refusal c wide ≡ 0) own (restore-accepted Wide w fits sized refl tail),
            rw back narrow-written,
          )

-- A watch that was parked in either format, in any buffer, is resumed from it under its card, and all that was written is taken.
pub parked-resumes :
    (f : Format) (w : Matcher) (entry : List ℕ)
    → length w.stages ≡ stage_count
    → save_refusal f w entry ≡ 0
    → (restore_refusal w.signature (save_buffer f w entry) ≡ 0)
    × (restored_matcher w.signature (save_buffer f w entry) ≡ w)
    × (restore_taken w.signature (save_buffer f w entry) ≡ save_used f w entry)
parked-resumes f w entry sized e =
    let bytes : List ℕ = checkpoint_record f w in
    let judged = judged-passed f w (put-passed (watch_judged f w) bytes entry e).0 in
    let tail : List ℕ = drop (length bytes) entry in
    rw e (
      restore-accepted f w judged.0 sized judged.1 tail,
      restore-back f w judged.0 sized judged.1 tail,
      restore-took f w judged.0 sized judged.1 tail,
    )
