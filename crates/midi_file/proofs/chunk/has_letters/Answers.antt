-- `chunk::has_letters` meets its contract.
use Prim.Native.Nat.{◌+◌, ◌-◌}
use mathlib.Core.Path.{◌≡◌, ◌∙◌}
use native.Mathlib.Omega.{arith}
use Rattle.midi_file.proofs.Chunks.{same-pointwise}
use Rattle.midi_file.proofs.chunk.has_letters.Goals as goal

pub returns : goal.returns
returns c =
    let four : c.args.at + 4 - c.args.at ≡ 4 = omega arith in
    rw (four, c.as_slice.ensures) at c.eq.ensures ∙ same-pointwise _ _
