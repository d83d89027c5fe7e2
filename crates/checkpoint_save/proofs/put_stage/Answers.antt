-- `checkpoint_save::put_stage` meets its contract: one field behind another.
use Prim.Native.Nat.{ℕ, ◌+◌, ◌*◌}
use mathlib.Core.Path.{◌∙◌}
use mathlib.Core.List.{[], ◌∷◌, ◌++◌}
use native.Mathlib.Omega.{arith}
use Rattle.fields.specs.Fields.{size}
use Rattle.fields.proofs.Gathered.{put-each, stamped-stamped}
use Rattle.fingerprint.specs.Fingerprint.{print_numbers}
use Rattle.record.specs.Layout.{word}
use Rattle.checkpoint_format.specs.Layout.{mark_fields, gap_fields}
use Rattle.checkpoint_format.specs.Places.{mark_size}
use Rattle.checkpoint_save.proofs.put_stage.Goals as goal

pub returns : goal.returns
unfolding size print_numbers
returns c =
    let a = c.args in
    let s = a.stage in
    let l = a.buf.now in
    let f = a.format in
    let from : ℕ = a.at + 4 in
    let size : ℕ = mark_size f in
    c.put_gap.ensures
    ∙ rw (
      c.put_mark-2.ensures,
      c.put_mark.ensures,
      c.put_word.ensures,
      c.mark_size-size.ensures,
      put-each (word s.held ∷ []) l a.at (omega arith),
      stamped-stamped l (word s.held ∷ []) a.at (mark_fields f s.first) from (omega arith) (omega arith),
      stamped-stamped l (word s.held ∷ mark_fields f s.first) a.at (mark_fields f s.last) (from + size) (omega arith)
          (omega arith),
    )
    (stamped-stamped l (word s.held ∷ mark_fields f s.first ++ mark_fields f s.last) a.at (gap_fields s.step)
    (from + 2 * size) (omega arith) (omega arith))
