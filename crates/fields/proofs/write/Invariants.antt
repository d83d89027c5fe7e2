-- `fields::write` meets its contract: behind the bytes written, those of the rest are still to come.
use Prim.Native.Nat.{◌-◌}
use mathlib.Core.Path.{◌≡◌}
use lib.ListN.{length}
use Rattle.fields.specs.Fields.{little_endian, pasted}
use Rattle.fields.proofs.write.Given as goal

abbrev pub invariant-loop-byte : goal.invariant-loop-byte
invariant-loop-byte l =
    record {
      long : length l.field ≡ length l.initial.field;
      rest :
          pasted l.field l.byte-index (little_endian (length l.initial.field - l.byte-index) l.rest)
          ≡ pasted l.initial.field 0 (little_endian (length l.initial.field) l.value);
    }
