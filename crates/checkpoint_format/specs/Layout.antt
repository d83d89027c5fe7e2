-- The layout of a parked watch's record, wide or narrow: a list of fields, written as their bytes (document 01, "Records").
use Rattle.std.specs.Prelude.{ℕ, List, ◌∷◌, ◌++◌, get_or}
use Rattle.fields.specs.Fields.{Field, widths, size, bytes_of, gathered}
use Rattle.fingerprint.specs.declared.Fingerprint.{Fingerprint}
use Rattle.fingerprint.specs.Fingerprint.{empty}
use Rattle.ladder.specs.Prefix.{levels}
use Rattle.signature.specs.declared.Signature.{Signature}
use Rattle.stage.specs.declared.Mark.{Mark}
use Rattle.stage.specs.declared.Gap.{Gap}
use Rattle.stage.specs.declared.Stage.{Stage}
use Rattle.matcher.specs.declared.Matcher.{Matcher}
use Rattle.stage.specs.Stages.{Stages, stage_at}
use Rattle.matcher.specs.Matcher.{no_matcher}
use Rattle.record.specs.Layout.{kind_field, word, record_fields, key_fields, print_fields}
use Rattle.checkpoint_format.specs.declared.Format.{Format}
use Rattle.checkpoint_format.specs.declared.Format.TheVariants.{Narrow, Wide}

-- "Parked watches kind 4" (document 02, A.4); "the wide parked record is kind 5" (A.5).
abbrev pub checkpoint_kind : Format → ℕ
checkpoint_kind Narrow = 4
checkpoint_kind Wide = 5

-- The wide parked record is "with t, first and last in 8 bytes and the other fields in 4"; a narrow one has them all in 4.
abbrev pub place_width : Format → ℕ
place_width Narrow = 4
place_width Wide = 8

abbrev pub place : Format → ℕ → Field
place f n = record { width = place_width f; value = n }

-- The fields of a mark and of a gap.
abbrev pub mark_fields : Format → Mark → List Field
mark_fields f mark = place f mark.at ∷ print_fields mark.print

abbrev pub gap_fields : Gap → List Field
gap_fields gap = word gap.length ∷ print_fields gap.print

-- "held, first, F_first, last, F_last, step, step print"
abbrev pub stage_fields : Format → Stage → List Field
stage_fields f s = word s.held ∷ mark_fields f s.first ++ mark_fields f s.last ++ gap_fields s.step

-- the last fingerprint of a card, that of P_k
abbrev pub last_print : Signature → Fingerprint
last_print s = get_or s.prints (levels s.length) empty

-- the fields of a watch's stage i
abbrev pub stage_fields_of : Format → Stages → ℕ → List Field
stage_fields_of f stages i = stage_fields f (stage_at stages i)

-- What follows the length field, for k stages: "m, r, fingerprint of P_k, t, F_t, then stages 0 .. k-1, seven fields each in the order above".
unfoldable pub checkpoint_body : Format → ℕ → Matcher → List Field
checkpoint_body f k w =
    kind_field (checkpoint_kind f) ∷ word w.signature.length ∷ key_fields w.signature.key
    ++ print_fields (last_print w.signature)
    ++ mark_fields f w.now
    ++ gathered (stage_fields_of f w.stages) k

abbrev pub checkpoint_record : Format → Matcher → List ℕ
checkpoint_record f w = bytes_of (record_fields (checkpoint_body f (levels w.signature.length) w))

-- The widths of its fields and what the length field says, for k stages: the same for every watch.
unfoldable pub checkpoint_widths : Format → ℕ → List ℕ
checkpoint_widths f k = widths (record_fields (checkpoint_body f k no_matcher))

unfoldable pub checkpoint_length : Format → ℕ → ℕ
checkpoint_length f k = size (widths (checkpoint_body f k no_matcher))
