-- A card's record that is written part by part stands whole at the front of the buffer.
-- Assumes nothing.
use Prim.Native.Nat.{ℕ, ◌+◌, ◌*◌, ◌≤◌}
use mathlib.Core.Path.{◌≡◌, refl, ◌∙◌, ap}
use mathlib.Core.List.{List, [], ◌∷◌, ◌++◌}
use native.Mathlib.Omega.{arith}
use lib.ListN.{length, take}
use lib.Seq.{length-take-le}
use Rattle.std.proofs.lemmas.List.{get_or-take}
use Rattle.fields.specs.Fields.{Field, widths, size, bytes_of, gathered, pasted, stamped}
use Rattle.fields.specs.Calls.{put_each}
use Rattle.fields.proofs.Gathered.{put-each, stamped-each, stamped-stamped}
use Rattle.fields.proofs.Again.{gathered-same}
use Rattle.fingerprint.specs.declared.Fingerprint.{Fingerprint}
use Rattle.fingerprint.specs.Fingerprint.{empty, key_numbers, print_numbers}
use Rattle.ladder.specs.Prefix.{levels}
use Rattle.signature.specs.declared.Signature.{Signature}
use Rattle.record.specs.Layout.{word, kind_field, key_fields, print_fields, print_fields_of}
use Rattle.record.specs.Places.{print_size, m_place, key_place, print_place}
use Rattle.card_record.specs.Layout.{signature_kind, signature_body, signature_record}
use Rattle.card_record.proofs.Sizes.{signature-length}

-- The first n fingerprints of a card are written as a list of their own.
pub prints-taken :
    (prints : List Fingerprint) (n : ℕ)
    → n ≤ length prints
    → gathered (print_fields_of (take n prints)) (length (take n prints)) ≡ gathered (print_fields_of prints) n
prints-taken prints n h =
    rw (length-take-le n prints h)
    (gathered-same (print_fields_of (take n prints)) (print_fields_of prints) n (λ i l. ap print_fields (get_or-take n prints i empty l)))

pub signature-put :
    (s : Signature) (k n : ℕ) (l b₁ b₂ b₃ b₄ : List ℕ)
    → k ≡ levels s.length
    → n + 4 ≡ print_place + print_size * (k + 1)
    → print_place + print_size * (k + 1) ≤ length l
    → b₁ ≡ put_each l 0 (word n ∷ kind_field signature_kind ∷ [])
    → b₂ ≡ put_each b₁ m_place (word s.length ∷ [])
    → b₃ ≡ put_each b₂ key_place (key_fields s.key)
    → b₄ ≡ stamped b₃ print_place (gathered (print_fields_of s.prints) (k + 1))
    → b₄ ≡ pasted l 0 (signature_record s)
unfolding signature_body size key_numbers print_numbers
signature-put s k n l b₁ b₂ b₃ b₄ e en room e₁ e₂ e₃ e₄ =
    let same : n ≡ size (widths (signature_body k s)) = omega (arith, signature-length k s) in
    let head : List Field = word n ∷ kind_field signature_kind ∷ [] in
    let m : List Field = word s.length ∷ [] in
    let key : List Field = key_fields s.key in
    e₄
    ∙ rw (
      e₃,
      e₂,
      e₁,
      put-each head l 0 (omega arith),
      stamped-each l head 0 m m_place refl (omega arith),
      stamped-each l (head ++ m) 0 key key_place refl (omega arith),
      stamped-stamped l (head ++ m ++ key) 0 (gathered (print_fields_of s.prints) (k + 1)) print_place refl (omega arith),
      ← e,
    )
    (ap (λ (x : ℕ). pasted l 0 (bytes_of (word x ∷ signature_body k s))) same)
