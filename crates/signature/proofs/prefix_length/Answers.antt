-- `signature::prefix_length` meets its contract: from 2^32 on m is the smaller.
use mathlib.Core.Path.{sym}
use native.Mathlib.Nat.{min-eq_right}
use lib.Pow.{pow_mono}
use native.Mathlib.Omega.{arith}
use Rattle.signature.proofs.prefix_length.Goals as goal

pub returns-else-i-lt32 : goal.returns-else-i-lt32
returns-else-i-lt32 c = sym (min-eq_right (omega (arith, pow_mono {i = 32} {j = c.args.i} (omega arith))))
