-- What it says of a record that a watch is resumed from it: each test of the call passed.
-- Assumes nothing.
use Prim.Native.Nat.{ℕ, ◌+◌, ◌≤◌}
use mathlib.Core.Path.{◌≡◌}
use mathlib.Core.Bool.{true}
use mathlib.Core.List.{List}
use native.Mathlib.Omega.{arith}
use lib.Dec.{eqb}
use lib.ListN.{length}
use borrow.Author.Tests.{eqb-true}
use Rattle.ladder.specs.Prefix.{levels}
use Rattle.lists.proofs.Laws.{and_left, and_right}
use Rattle.signature.specs.declared.Signature.{Signature}
use Rattle.signature.specs.Signature.{signature_fits}
use Rattle.matcher.specs.Matcher.{matcher_fits}
use Rattle.record.specs.Layout.{length_width, length_field, kind_of}
use Rattle.record.specs.Calls.{head_refusal}
use Rattle.checkpoint_format.specs.Layout.{checkpoint_kind, checkpoint_length}
use Rattle.checkpoint_format.specs.Calls.{checkpoint_least}
use Rattle.checkpoint_restore.specs.Layout.{same_pattern, matcher_at}
use Rattle.checkpoint_restore.specs.Calls.{format_of, restore_refusal}
use Rattle.record.proofs.Accepted.{passed, neither, head_passed}
use Rattle.checkpoint_format.specs.declared.Format.{Format}

-- A watch is resumed from the front of a buffer: what stands there, in the format that its kind says.
pub record Resumes (f : Format) (card : Signature) (s : List ℕ) : Type 0 where
  pub fits : signature_fits card ≡ true
  pub room : length_field s + length_width ≤ length s
  pub kind : kind_of s ≡ checkpoint_kind f
  pub pattern : same_pattern f card s ≡ true
  pub long : length_field s ≡ checkpoint_length f (levels card.length)
  pub watch : matcher_fits (matcher_at f card s) ≡ true

pub resumes : (card : Signature) (s : List ℕ) → restore_refusal card s ≡ 0 → Resumes (format_of s) card s
unfolding restore_refusal
resumes card s e =
    let f : Format = format_of s in
    let a = passed (signature_fits card) 10 (λ z. omega arith) e in
    let h = neither (head_refusal (checkpoint_kind f) (checkpoint_least f) s) a.1 in
    let head = head_passed (checkpoint_kind f) (checkpoint_least f) s h.0 in
    let p = passed (same_pattern f card s) 11 (λ z. omega arith) h.1 in
    let suits = (passed _ 10 (λ z. omega arith) p.1).0 in
    record {
      fits = a.0;
      room = head.0;
      kind = head.1;
      pattern = p.0;
      long = eqb-true _ _ (and_left _ _ suits);
      watch = and_right (eqb (length_field s) (checkpoint_length f (levels card.length))) _ suits;
    }
