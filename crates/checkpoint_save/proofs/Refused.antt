-- "A refused call changes .. no byte of a buffer": what a refused parking leaves behind a used part.
-- Assumes nothing.
use Prim.Native.Nat.{ℕ}
use mathlib.Core.Path.{◌≡◌}
use mathlib.Core.List.{List}
use native.Mathlib.Nat.{add-zero}
use lib.ListN.{take-append-drop}
use borrow.Author.Tests.{ne_eqb}
use Rattle.matcher.specs.declared.Matcher.{Matcher}
use Rattle.checkpoint_format.specs.declared.Format.{Format}
use Rattle.checkpoint_save.specs.Calls.{behind_refusal, behind_used, behind_buffer}

pub refused-behind :
    (f : Format) (w : Matcher) (entry : List ℕ) (used : ℕ)
    → (behind_refusal f w entry used ≡ 0 → ⊥)
    → (behind_buffer f w entry used ≡ entry) × (behind_used f w entry used ≡ used)
refused-behind f w entry used refused = rw (ne_eqb _ _ refused) (take-append-drop used entry, add-zero used)
