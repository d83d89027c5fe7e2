-- `record::put_head` meets its contract.
use Prim.Native.Nat.{ℕ}
use mathlib.Core.Path.{◌∙◌, ap}
use mathlib.Core.List.{List}
use Rattle.fields.specs.Calls.{put_at, put_each}
use Rattle.record.specs.Layout.{length_width, kind_width}
use Rattle.record.proofs.put_head.Goals as goal

pub returns : goal.returns
unfolding put_each
returns c =
    let a = c.args in
    c.put.ensures ∙ ap (λ (l : List ℕ). put_at l length_width kind_width a.kind) c.put_word.ensures
