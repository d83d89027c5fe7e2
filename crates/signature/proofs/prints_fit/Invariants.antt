-- `signature::prints_fit` meets its contract: each print that was passed fits.
use mathlib.Core.Path.{◌≡◌}
use mathlib.Core.Bool.{true}
use Rattle.lists.specs.Lists.{every}
use Rattle.signature.specs.Signature.{place_fits}
use Rattle.signature.proofs.prints_fit.Given as goal

abbrev pub invariant-loop-i : goal.invariant-loop-i
invariant-loop-i l = every (place_fits l.m l.taken l.prints) l.i ≡ true
