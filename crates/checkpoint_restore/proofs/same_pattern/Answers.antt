-- `checkpoint_restore::same_pattern` meets its contract: its tests are the definition's.
use mathlib.Core.Path.{◌≡◌, sym, ◌∙◌, ap}
use mathlib.Core.Bool.{◌&&◌}
use lib.Dec.{eqb}
use borrow.Author.Tests.{ne_eqb, eq-eqb}
use Rattle.fingerprint.specs.declared.Key.{Key}
use Rattle.fields.specs.Fields.{widths, values_at}
use Rattle.fingerprint.specs.Fingerprint.{key_of, no_key, same_key}
use Rattle.fingerprint.proofs.Laws.{eqb-same, eqb-same_key}
use Rattle.record.specs.Layout.{key_fields, pattern_length}
use Rattle.record.specs.Places.{key_place}
use Rattle.checkpoint_restore.proofs.Positions.{pattern-tests}
use Rattle.checkpoint_restore.proofs.same_pattern.Goals as goal
use Rattle.checkpoint_restore.proofs.same_pattern.Goals.{Joined-word_at-signature, then-word_at-signature, else-word_at-signature}

-- the tests of the length and the key
front : (c : Joined-word_at-signature)
    → c.if-word_at-signature.value
    ≡ eqb (pattern_length c.args.buf.now) c.args.signature.length
    && same_key (key_of (values_at c.args.buf.now key_place (widths (key_fields no_key)))) c.args.signature.key
front c =
    elim c.if-word_at-signature.branch [
      | then-word_at-signature w ↦
          rw (w.value-is, eq-eqb _ _ (sym c.word_at.ensures ∙ w.if-word_at-signature.true))
          (w.eq.ensures ∙ eqb-same_key _ _ ∙ ap (λ (k : Key). same_key k c.args.signature.key) w.key_at.ensures)
      | else-word_at-signature w ↦
          rw (ne_eqb (pattern_length c.args.buf.now) c.args.signature.length (λ e. w.if-word_at-signature.false (c.word_at.ensures ∙ e)))
          (w.value-is ∙ ne_eqb _ _ w.if-word_at-signature.false)
    ]

pub returns-then-eq : goal.returns-then-eq
returns-then-eq c f =
    rw (pattern-tests f c.args.signature c.args.buf.now, ← front (goal.at.returns-then-eq c).Joined-word_at-signature, c.if-eq.true)
    (c.eq-then-eq.ensures ∙ eqb-same _ _ ∙ rw (c.print_at.ensures, c.levels.ensures))

pub returns-else-eq : goal.returns-else-eq
returns-else-eq c f =
    rw (pattern-tests f c.args.signature c.args.buf.now, ← front (goal.at.returns-else-eq c).Joined-word_at-signature, c.if-eq.false)
