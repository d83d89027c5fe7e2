-- `record::put_key` meets its contract.
use Prim.Native.Nat.{ℕ}
use mathlib.Core.Path.{◌∙◌, ap}
use mathlib.Core.List.{[], ◌∷◌}
use Rattle.fields.specs.Calls.{put_each}
use Rattle.fingerprint.specs.Fingerprint.{key_numbers}
use Rattle.record.specs.Layout.{word}
use Rattle.record.proofs.put_key.Goals as goal

pub returns : goal.returns
unfolding key_numbers
returns c =
    let a = c.args in
    c.put_word.ensures ∙ ap (λ (n : ℕ). put_each a.buf.now a.at (word n ∷ [])) c.number.ensures
