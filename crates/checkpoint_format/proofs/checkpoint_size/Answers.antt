-- `checkpoint_format::checkpoint_size` meets its contract.
use Prim.Native.Nat.{ℕ, ◌*◌}
use mathlib.Core.Path.{ap}
use native.Mathlib.Omega.{arith}
use Rattle.checkpoint_format.proofs.Sizes.{checkpoint-whole}
use Rattle.checkpoint_format.proofs.checkpoint_size.Goals as goal

pub returns : goal.returns
returns c =
    let a = c.args in
    let all = ap (λ (n : ℕ). n * a.k) c.stage_size.ensures in
    omega (arith, checkpoint-whole a.format a.k)
