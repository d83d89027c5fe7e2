-- The call that resumes a watch: the number of its refusal, 0 where it is accepted, and what it hands back (document 01, "Records" and "The
-- board's refusals").
use Rattle.std.specs.Prelude.{ℕ, ◌+◌, Bool, cond, ◌&&◌, List, eqb}
use Rattle.ladder.specs.Prefix.{levels}
use Rattle.signature.specs.declared.Signature.{Signature}
use Rattle.signature.specs.Signature.{signature_fits}
use Rattle.matcher.specs.declared.Matcher.{Matcher}
use Rattle.matcher.specs.Matcher.{matcher_fits, no_matcher}
use Rattle.record.specs.Layout.{length_width, length_field, kind_of}
use Rattle.record.specs.Calls.{before, head_refusal}
use Rattle.checkpoint_format.specs.Layout.{checkpoint_kind, checkpoint_length}
use Rattle.checkpoint_format.specs.Calls.{checkpoint_least}
use Rattle.checkpoint_restore.specs.Layout.{same_pattern, matcher_at}
use Rattle.checkpoint_format.specs.declared.Format.{Format}
use Rattle.checkpoint_format.specs.declared.Format.TheVariants.{Narrow, Wide}

-- "Kind 4 is still read": such a record is narrow, and every other is read as a wide one, to which another kind than 5 is 9.
abbrev pub format_of : List ℕ → Format
format_of s = cond (eqb (kind_of s) (checkpoint_kind Narrow)) Narrow Wide

-- A watch is resumed under a card: the card (10), the head by its kind, "11, other 10".
abbrev pub checkpoint_suits : Signature → List ℕ → Bool
checkpoint_suits card s =
    eqb (length_field s) (checkpoint_length (format_of s) (levels card.length)) && matcher_fits (matcher_at (format_of s) card s)

unfoldable pub restore_refusal : Signature → List ℕ → ℕ
restore_refusal card s =
    cond (signature_fits card)
    (before (head_refusal (checkpoint_kind (format_of s)) (checkpoint_least (format_of s)) s)
    (cond (same_pattern (format_of s) card s) (cond (checkpoint_suits card s) 0 10) 11))
    10

unfoldable pub restored_matcher : Signature → List ℕ → Matcher
restored_matcher card s = cond (eqb (restore_refusal card s) 0) (matcher_at (format_of s) card s) no_matcher

unfoldable pub restore_taken : Signature → List ℕ → ℕ
restore_taken card s = cond (eqb (restore_refusal card s) 0) (length_field s + length_width) 0
