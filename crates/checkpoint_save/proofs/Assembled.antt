-- A parked watch's record that is written part by part stands whole at the front of the buffer.
-- Assumes nothing.
use Prim.Native.Nat.{ℕ, ◌+◌, ◌*◌, ◌≤◌}
use mathlib.Core.Path.{◌≡◌, refl, ◌∙◌, ap}
use mathlib.Core.List.{List, [], ◌∷◌, ◌++◌}
use native.Mathlib.Omega.{arith}
use lib.ListN.{length, take}
use lib.Seq.{length-take-le}
use Rattle.std.proofs.lemmas.List.{get_or-take}
use Rattle.fields.specs.Fields.{Field, widths, size, bytes_of, gathered, pasted, stamped}
use Rattle.fields.specs.Calls.{put_each}
use Rattle.fields.proofs.Gathered.{put-each, stamped-each, stamped-stamped}
use Rattle.fields.proofs.Again.{gathered-same}
use Rattle.stage.specs.Stage.{no_stage}
use Rattle.stage.specs.Stages.{Stages}
use Rattle.fingerprint.specs.Fingerprint.{key_numbers, print_numbers}
use Rattle.ladder.specs.Prefix.{levels}
use Rattle.matcher.specs.declared.Matcher.{Matcher}
use Rattle.checkpoint_format.specs.declared.Format.{Format}
use Rattle.record.specs.Layout.{word, kind_field, key_fields, print_fields_of}
use Rattle.record.specs.Places.{m_place, key_place, print_place}
use Rattle.checkpoint_format.specs.Layout.{mark_fields, stage_fields, stage_fields_of, checkpoint_kind, checkpoint_body, checkpoint_record}
use Rattle.checkpoint_format.specs.Places.{stage_size, now_place, stages_place}
use Rattle.checkpoint_format.proofs.Sizes.{checkpoint-length}

-- The first n stages of a watch are written as a list of their own.
pub stages-taken :
    (f : Format) (stages : Stages) (n : ℕ)
    → n ≤ length stages
    → gathered (stage_fields_of f (take n stages)) (length (take n stages)) ≡ gathered (stage_fields_of f stages) n
stages-taken f stages n h =
    rw (length-take-le n stages h)
    (gathered-same (stage_fields_of f (take n stages)) (stage_fields_of f stages) n
    (λ i l. ap (stage_fields f) (get_or-take n stages i no_stage l)))

pub checkpoint-put :
    (f : Format) (w : Matcher) (k n : ℕ) (l b₁ b₂ b₃ b₄ b₅ b₆ : List ℕ)
    → k ≡ levels w.signature.length
    → n + 4 ≡ stages_place f + stage_size f * k
    → stages_place f + stage_size f * k ≤ length l
    → b₁ ≡ put_each l 0 (word n ∷ kind_field (checkpoint_kind f) ∷ [])
    → b₂ ≡ put_each b₁ m_place (word w.signature.length ∷ [])
    → b₃ ≡ put_each b₂ key_place (key_fields w.signature.key)
    → b₄ ≡ put_each b₃ print_place (print_fields_of w.signature.prints k)
    → b₅ ≡ stamped b₄ now_place (mark_fields f w.now)
    → b₆ ≡ stamped b₅ (stages_place f) (gathered (stage_fields_of f w.stages) k)
    → b₆ ≡ pasted l 0 (checkpoint_record f w)
unfolding checkpoint_body size key_numbers print_numbers
checkpoint-put f w k n l b₁ b₂ b₃ b₄ b₅ b₆ e en room e₁ e₂ e₃ e₄ e₅ e₆ =
    let due : ℕ = levels w.signature.length in
    let same : n ≡ size (widths (checkpoint_body f due w)) =
    omega (arith, checkpoint-length f due w, ap (λ (j : ℕ). stage_size f * j) e)
    in
    let head : List Field = word n ∷ kind_field (checkpoint_kind f) ∷ [] in
    let m : List Field = word w.signature.length ∷ [] in
    let key : List Field = key_fields w.signature.key in
    let last : List Field = print_fields_of w.signature.prints k in
    let now : List Field = mark_fields f w.now in
    e₆
    ∙ rw (
      e₅,
      e₄,
      e₃,
      e₂,
      e₁,
      put-each head l 0 (omega arith),
      stamped-each l head 0 m m_place refl (omega arith),
      stamped-each l (head ++ m) 0 key key_place refl (omega arith),
      stamped-each l (head ++ m ++ key) 0 last print_place refl (omega arith),
      stamped-stamped l (head ++ m ++ key ++ last) 0 now now_place refl (omega arith),
      stamped-stamped l (head ++ m ++ key ++ last ++ now) 0 (gathered (stage_fields_of f w.stages) k) (stages_place f) (omega arith)
          (omega arith),
      e,
    )
    (ap (λ (x : ℕ). pasted l 0 (bytes_of (word x ∷ checkpoint_body f due w))) same)
