-- `checkpoint_save::put_mark` meets its contract: one field behind another.
use Prim.Native.Nat.{ℕ, ◌+◌}
use mathlib.Core.Path.{◌≡◌, ◌∙◌, ap}
use mathlib.Core.List.{[], ◌∷◌}
use native.Mathlib.Omega.{arith}
use Rattle.fields.specs.Fields.{size, stamped}
use Rattle.fields.specs.Calls.{put_at}
use Rattle.fields.proofs.Laws.{put-field}
use Rattle.fingerprint.specs.Fingerprint.{print_numbers}
use Rattle.fields.proofs.Gathered.{stamped-each}
use Rattle.record.specs.Layout.{print_fields}
use Rattle.checkpoint_format.specs.Layout.{place_width, place}
use Rattle.checkpoint_save.proofs.put_mark.Goals as goal

pub returns : goal.returns
unfolding size print_numbers
returns c =
    let a = c.args in
    let l = a.buf.now in
    let wide : ℕ = place_width a.format in
    let at = place a.format a.mark.at ∷ [] in
    let first : c.put.new.buf ≡ stamped l a.at at =
    c.put.ensures
    ∙ ap (λ (n : ℕ). put_at l a.at n a.mark.at) c.width-width.ensures
    ∙ put-field l a.at wide a.mark.at (omega arith)
    in
    let next : c.bytes.result ≡ wide = c.bytes.ensures ∙ c.width-width.ensures in
    c.put_print.ensures
    ∙ rw (first, next) (stamped-each l at a.at (print_fields a.mark.print) (a.at + wide) (omega arith) (omega arith))
