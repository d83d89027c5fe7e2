-- `card_record::put_prints` meets its contract: the fingerprints passed stand one behind another.
use mathlib.Core.Path.{◌≡◌}
use lib.ListN.{length}
use Rattle.fields.specs.Fields.{gathered, stamped}
use Rattle.record.specs.Layout.{print_fields_of}
use Rattle.record.specs.Places.{print_place}
use Rattle.card_record.proofs.put_prints.Given as goal

abbrev pub invariant-loop-i : goal.invariant-loop-i
invariant-loop-i l =
    record {
      long : length l.buf ≡ length l.initial.buf;
      written : l.buf ≡ stamped l.initial.buf print_place (gathered (print_fields_of l.prints) l.i);
    }
