-- `decimal::put` meets its contract: the digits not yet stored, put before those that are, are all of n's.
use Prim.Native.Nat.{◌-◌, ◌≤◌}
use mathlib.Core.Path.{◌≡◌}
use lib.Seq.{sets}
use Rattle.decimal.specs.Decimal.{decimal}
use Rattle.decimal.proofs.Putting.{last_digits}
use Rattle.decimal.proofs.put.Given as goal

abbrev pub invariant-loop-place : goal.invariant-loop-place
invariant-loop-place l =
    record {
      within : l.at ≤ l.place;
      stored : sets l.buf l.at (last_digits (l.place - l.at) l.left) ≡ sets l.initial.buf l.at (decimal l.n);
    }
