-- `fields::read` meets its contract: the bytes passed, from the last down, are the number's high bytes.
use Prim.Native.Nat.{◌^◌, ◌<◌}
use mathlib.Core.Path.{◌≡◌}
use Rattle.std.proofs.Common.{length, reverse, map}
use Rattle.fields.specs.Fields.{number_from}
use Rattle.fields.proofs.read.Given as goal

abbrev pub invariant-loop-byte : goal.invariant-loop-byte
invariant-loop-byte l =
    record {
      number : l.number ≡ number_from (reverse (map (λ b. b.now) l.yielded)) 0 (length l.yielded);
      bound : l.number < 256 ^ length l.yielded;
    }
