-- Where the code finds a card's fingerprints: at the places of their fields in the record.
-- Assumes nothing.
use Prim.Native.Nat.{ℕ, ◌+◌, ◌*◌, ◌≤◌}
use mathlib.Core.Path.{◌≡◌, refl, ◌∙◌, ap}
use mathlib.Core.List.{List}
use native.Mathlib.Omega.{arith}
use Rattle.fields.specs.Fields.{widths, size, values_at}
use Rattle.fields.proofs.Gathered.{values-gathered}
use Rattle.fingerprint.specs.Fingerprint.{empty, key_numbers, print_numbers}
use Rattle.signature.specs.Signature.{no_signature}
use Rattle.record.specs.Layout.{print_fields, print_count, print_position, part}
use Rattle.record.specs.Places.{print_size, print_place}
use Rattle.card_record.specs.Layout.{signature_widths}
use Rattle.card_record.proofs.Sizes.{signature_front, print_widths, signature-widths}

module _ (s : List ℕ) (k : ℕ) where
  pub print-place :
      (i : ℕ)
      → i ≤ k
      → part (print_position + i * print_count) print_count (values_at s 0 (signature_widths k))
      ≡ values_at s (print_place + print_size * i) (widths (print_fields empty))
  unfolding size key_numbers print_numbers signature_widths
  print-place i l =
      ap (λ (ws : List ℕ). part (print_position + i * print_count) print_count (values_at s 0 ws)) (signature-widths k no_signature)
      ∙ values-gathered print_widths print_size (λ j. refl) s signature_front print_count (k + 1) i _ _ (λ j. refl) (omega arith) refl
      (omega arith)
