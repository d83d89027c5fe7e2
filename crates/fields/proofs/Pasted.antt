-- Bytes put into a buffer: one run behind another is one run, and the buffer keeps its length.
-- Assumes nothing.
use Prim.Native.Nat.{ℕ, suc, ◌+◌, ◌-◌, ◌/◌, ◌%◌, ◌≤◌, ◌<◌}
use mathlib.Core.Path.{◌≡◌, refl, sym, ◌∙◌, ap}
use mathlib.Core.List.{List, [], ◌∷◌, ◌++◌, append_assoc, append-nil}
use native.Mathlib.Nat.{zero-add, add-zero}
use native.Mathlib.Omega.{arith}
use lib.ListN.{length, take, drop, set, length-append, length-drop, take-append-drop}
use lib.Seq.{take_at, drop-append-add, drop-drop, drop-set-lt, drop-length, length-take-le, take-suc-set}
use Rattle.std.proofs.lemmas.Slice.{put_mid-paste}
use Rattle.std.proofs.lemmas.List.Edits.{paste_all}
use borrow.Rule.Slice.PartMut.{put_mid}
use Rattle.fields.specs.Fields.{little_endian, pasted}

module _ (l us : List ℕ) (at : ℕ) where
  -- what stands before a run, and the run
  length_front : at ≤ length l → length (take at l ++ us) ≡ at + length us
  length_front h = length-append (take at l) us ∙ ap (λ (n : ℕ). n + length us) (length-take-le at l h)

  pub length-pasted : at + length us ≤ length l → length (pasted l at us) ≡ length l
  unfolding pasted
  length-pasted h =
      length-append (take at l ++ us) (drop (at + length us) l)
      ∙ rw (length_front (omega arith), length-drop) (omega arith)

  pub pasted-pasted :
      (vs : List ℕ)
      (next : ℕ)
      → next ≡ at + length us
      → next ≤ length l
      → pasted (pasted l at us) next vs ≡ pasted l at (us ++ vs)
  unfolding pasted
  pasted-pasted vs next e h =
      let front : List ℕ = take at l ++ us in
      let rest : List ℕ = drop (at + length us) l in
      let size : length front ≡ next = length_front (omega arith) ∙ sym e in
      let sum : at + length us + length vs ≡ at + length (us ++ vs) = omega (arith, length-append us vs) in
      let behind : drop (next + length vs) (front ++ rest) ≡ drop (at + length (us ++ vs)) l =
      rw (← size) (drop-append-add front rest (length vs))
      ∙ drop-drop (length vs) (at + length us) l
      ∙ ap (λ (n : ℕ). drop n l) sum
      in
      rw (take_at front rest next size, behind, append_assoc (take at l) us vs)

-- a run of no bytes
pub pasted-none : (l : List ℕ) (at : ℕ) → pasted l at [] ≡ l
unfolding pasted
pasted-none l at = rw (add-zero, append-nil) (take-append-drop at l)

-- a byte is stored, and a run put behind it
pub pasted-byte :
    (l : List ℕ) (at b : ℕ) (bytes : List ℕ) → at < length l → pasted (set l at b) (suc at) bytes ≡ pasted l at (b ∷ bytes)
unfolding pasted
pasted-byte l at b bytes h =
    let same : suc at + length bytes ≡ at + suc (length bytes) = omega arith in
    rw (take-suc-set l at b h, drop-set-lt (suc at + length bytes) l at b (omega arith), same, append_assoc (take at l) (b ∷ []) bytes)

-- a run of as many bytes as the buffer has is the buffer
pub pasted-whole : (l bytes : List ℕ) → length bytes ≡ length l → pasted l 0 bytes ≡ bytes
unfolding pasted
pasted-whole l bytes e = rw (e, zero-add, drop-length, append-nil)

-- bytes written to a part of the buffer
pub part-pasted :
    (l : List ℕ) (at k : ℕ) (bytes : List ℕ) → length bytes ≡ k → put_mid at k l bytes ≡ pasted l at bytes
unfolding pasted
part-pasted l at k bytes e =
    put_mid-paste at k l bytes bytes k refl refl (sym e)
    ∙ paste_all l at bytes k (sym e)
    ∙ rw e (sym (append_assoc (take at l) bytes (drop (at + k) l)))

-- a loop that writes a number from its lowest byte on: one byte more
pub number_put :
    (l : List ℕ) (i n rest : ℕ)
    → i < n
    → i < length l
    → pasted (set l i (rest % 256)) (i + 1) (little_endian (n - (i + 1)) (rest / 256)) ≡ pasted l i (little_endian (n - i) rest)
unfolding little_endian
number_put l i n rest h room =
    let less : n - i ≡ suc (n - (i + 1)) = omega arith in
    let next : i + 1 ≡ suc i = omega arith in
    rw (less, next) (pasted-byte l i (rest % 256) (little_endian (n - suc i) (rest / 256)) room)
