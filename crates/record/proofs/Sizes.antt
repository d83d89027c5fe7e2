-- How long a record is: so much as its length field says, and the length field.
-- Assumes nothing.
use Prim.Native.Nat.{◌+◌}
use mathlib.Core.Path.{◌≡◌}
use mathlib.Core.List.{List}
use native.Mathlib.Omega.{arith}
use lib.ListN.{length, get_or}
use Rattle.fields.specs.Fields.{Field, values, size, bytes_of}
use Rattle.fields.proofs.Laws.{length-bytes}
use Rattle.record.specs.Layout.{length_width, record_fields}

-- "Length (4 bytes) of what follows it": the record is 4 bytes longer than its length field says.
pub record-size : (behind : List Field) → length (bytes_of (record_fields behind)) ≡ get_or (values (record_fields behind)) 0 0 + length_width
unfolding size
record-size behind = omega (arith, length-bytes (record_fields behind))
