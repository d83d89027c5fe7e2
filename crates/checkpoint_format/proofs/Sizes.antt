-- How long a parked watch's records are: a narrow one 26 + 28k bytes in all, at most 586, and 26 for one byte; a wide one 30 + 36k, at
-- most 750, and 30 for one byte.
-- Assumes nothing.
use Prim.Native.Nat.{ℕ, ◌+◌, ◌*◌, ◌^◌, ◌≤◌, ◌<◌}
use mathlib.Core.Path.{◌≡◌, ◌∙◌, ap}
use mathlib.Core.Bool.{true}
use mathlib.Core.List.{List, ◌∷◌, ◌++◌}
use native.Mathlib.Omega.{arith}
use lib.ListN.{length}
use Rattle.fields.specs.Fields.{Field, widths, size, gathered}
use Rattle.fields.proofs.Gathered.{map-gathered, size-gathered}
use Rattle.fingerprint.specs.Fingerprint.{empty, key_numbers, print_numbers, no_key}
use Rattle.ladder.specs.Prefix.{levels, least_from}
use Rattle.ladder.proofs.Levels.{levels-bound}
use Rattle.matcher.specs.declared.Matcher.{Matcher}
use Rattle.stage.specs.declared.Stage.{Stage}
use Rattle.stage.specs.Stage.{no_stage, origin}
use Rattle.stage.specs.Stages.{stage_count}
use Rattle.matcher.specs.Matcher.{matcher_fits, no_matcher}
use Rattle.matcher.proofs.Sound.{sound, card-of}
use Rattle.record.proofs.Sizes.{record-size}
use Rattle.record.specs.Layout.{kind_width, word_width, length_width, record_fields, key_fields, print_fields}
use Rattle.checkpoint_format.specs.Layout.{place_width, mark_fields, stage_fields, stage_fields_of, checkpoint_body, checkpoint_record, checkpoint_length}
use Rattle.checkpoint_format.specs.Places.{stage_size, stages_place, longest_checkpoint, shortest_checkpoint}
use Rattle.checkpoint_format.specs.Calls.{checkpoint_least}
use Rattle.checkpoint_format.specs.declared.Format.{Format}
use Rattle.checkpoint_format.specs.declared.Format.TheVariants.{Narrow, Wide}

-- What stands before a watch's stages, and the widths of one of them.
abbrev pub checkpoint_front : Format → List ℕ
checkpoint_front f =
    length_width ∷ kind_width ∷ word_width ∷ widths (key_fields no_key) ++ widths (print_fields empty) ++ widths (mark_fields f origin)

abbrev pub stage_widths : Format → ℕ → List ℕ
stage_widths f i = widths (stage_fields f no_stage)

-- The widths are the same for every watch.
pub checkpoint-widths :
    (f : Format) (k : ℕ) (w : Matcher)
    → widths (record_fields (checkpoint_body f k w)) ≡ checkpoint_front f ++ gathered (stage_widths f) k
unfolding checkpoint_body key_numbers print_numbers
checkpoint-widths f k w =
    ap (λ (l : List ℕ). checkpoint_front f ++ l) (map-gathered (λ (q : Field). q.width) (stage_fields_of f w.stages) k)

-- "Length 22 + 28k", and "26 + 36k" of a wide one: with the length field.
pub stage-size : (f : Format) (s : Stage) → size (widths (stage_fields f s)) ≡ stage_size f
unfolding size print_numbers
stage-size f s = omega arith

pub checkpoint-length :
    (f : Format) (k : ℕ) (w : Matcher) → length_width + size (widths (checkpoint_body f k w)) ≡ stages_place f + stage_size f * k
unfolding size key_numbers print_numbers
checkpoint-length f k w =
    ap size (checkpoint-widths f k w) ∙ omega (arith, size-gathered (stage_widths f) (stage_size f) (λ i. stage-size f no_stage) k)

-- The length field is the same for every watch.
pub checkpoint-same : (f : Format) (k : ℕ) (w : Matcher) → size (widths (checkpoint_body f k w)) ≡ checkpoint_length f k
unfolding checkpoint_length
checkpoint-same f k w = omega (arith, checkpoint-length f k w, checkpoint-length f k no_matcher)

-- "Length (4 bytes) of what follows it": the record is 4 bytes longer than its length field says.
pub checkpoint-size :
    (f : Format) (w : Matcher) → length (checkpoint_record f w) ≡ checkpoint_length f (levels w.signature.length) + length_width
checkpoint-size f w =
    let k : ℕ = levels w.signature.length in
    record-size (checkpoint_body f k w) ∙ ap (λ (n : ℕ). n + length_width) (checkpoint-same f k w)

pub checkpoint-whole : (f : Format) (k : ℕ) → checkpoint_length f k + length_width ≡ stages_place f + stage_size f * k
unfolding checkpoint_length
checkpoint-whole f k = omega (arith, checkpoint-length f k no_matcher)

-- "Length 22 + 28k", and of a wide record "26 + 36k": the least of its kind, and so much for each stage.
pub checkpoint-length-is : (f : Format) (k : ℕ) → checkpoint_length f k ≡ checkpoint_least f + stage_size f * k
checkpoint-length-is Narrow k = omega (arith, checkpoint-whole Narrow k)
checkpoint-length-is Wide k = omega (arith, checkpoint-whole Wide k)

pub narrow-length : (k : ℕ) → checkpoint_length Narrow k ≡ 22 + 28 * k
narrow-length k = checkpoint-length-is Narrow k

pub wide-length : (k : ℕ) → checkpoint_length Wide k ≡ 26 + 36 * k
wide-length k = checkpoint-length-is Wide k

-- Places and sizes in either format stay small: whatever k the code is handed, and up to the stages that a record can have.
pub place-bound : (f : Format) → place_width f ≤ 8
place-bound Narrow = omega arith
place-bound Wide = omega arith

pub stages-small : (f : Format) (k : ℕ) → k < 2 ^ 32 → stages_place f + stage_size f * k < 2 ^ 64
stages-small Narrow k l = omega arith
stages-small Wide k l = omega arith

pub stage-within :
    (f : Format) (i n room : ℕ)
    → i < n
    → stages_place f + stage_size f * n ≤ room
    → stages_place f + stage_size f * i + stage_size f ≤ room
stage-within Narrow i n room l h = omega arith
stage-within Wide i n room l h = omega arith

-- "at most 586 bytes with the length field", and 750 of a wide record: for k up to 20
pub stages-at-most : (f : Format) (k : ℕ) → k ≤ stage_count → stages_place f + stage_size f * k ≤ longest_checkpoint f
stages-at-most Narrow k l = omega arith
stages-at-most Wide k l = omega arith

pub stage-reach : (f : Format) (i : ℕ) → i < stage_count → stages_place f + stage_size f * i + stage_size f ≤ longest_checkpoint Wide
stage-reach Narrow i l = omega arith
stage-reach Wide i l = omega arith

pub longest-wide : (f : Format) → longest_checkpoint f ≤ longest_checkpoint Wide
longest-wide Narrow = omega arith
longest-wide Wide = omega arith

pub checkpoint-at-most : (f : Format) (w : Matcher) → matcher_fits w ≡ true → length (checkpoint_record f w) ≤ longest_checkpoint f
checkpoint-at-most f w h =
    let m : ℕ = w.signature.length in
    let most = stages-at-most f (levels m) (levels-bound m (card-of (sound w h)).short) in
    omega (arith, checkpoint-size f w, checkpoint-whole f (levels m))

-- "A parked record of m = 1 has 26 bytes"; a wide one: "at m = 1 the whole takes 30 bytes".
pub checkpoint-of-one : (f : Format) (w : Matcher) → w.signature.length ≡ 1 → length (checkpoint_record f w) ≡ shortest_checkpoint f
unfolding levels least_from
checkpoint-of-one Narrow w e =
    omega (arith, checkpoint-size Narrow w, narrow-length (levels w.signature.length), ap levels e)
checkpoint-of-one Wide w e = omega (arith, checkpoint-size Wide w, wide-length (levels w.signature.length), ap levels e)
