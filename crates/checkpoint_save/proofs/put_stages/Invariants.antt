-- `checkpoint_save::put_stages` meets its contract: the stages passed stand one behind another.
use mathlib.Core.Path.{◌≡◌}
use lib.ListN.{length}
use Rattle.fields.specs.Fields.{gathered, stamped}
use Rattle.checkpoint_format.specs.Layout.{stage_fields_of}
use Rattle.checkpoint_format.specs.Places.{stages_place}
use Rattle.checkpoint_save.proofs.put_stages.Given as goal

abbrev pub invariant-loop-i : goal.invariant-loop-i
invariant-loop-i l =
    record {
      long : length l.buf ≡ length l.initial.buf;
      written : l.buf ≡ stamped l.initial.buf (stages_place l.format) (gathered (stage_fields_of l.format l.stages) l.i);
    }
