-- Parts of one shape, one behind another: where each stands, how many bytes they have, that they are read back, and written in a loop.
-- Assumes nothing.
use Prim.Native.Nat.{ℕ, zero, suc, ◌+◌, ◌*◌, ◌≤◌, ◌<◌}
use mathlib.Core.Path.{◌≡◌, refl, sym, ◌∙◌, ap, subst}
use mathlib.Core.Logic.{⊎_elim}
use mathlib.Core.List.{List, [], ◌∷◌, ◌++◌, map, map-append, append_assoc, append-nil}
use native.Mathlib.Nat.{not-suc-le-zero, eq-or-lt_of_le, le_of_suc-le-suc}
use native.Mathlib.Numerals.{add-one}
use native.Mathlib.Omega.{arith}
use lib.ListN.{length, take, drop, length-append}
use Rattle.fields.specs.Fields.{Field, widths, size, bytes_of, values_at, EachFits, gathered, stamped}
use Rattle.fields.specs.Calls.{put_each}
use Rattle.fields.proofs.Laws.{length-bytes, bytes-append, size-append, part_of, values-part, fit_append, put-field}
use Rattle.fields.proofs.Pasted.{length-pasted, pasted-none, pasted-pasted}

-- what stands behind part i
pub record Split {A : Type 0} (f : ℕ → List A) (n i : ℕ) : Type 0 where
  pub rest : List A
  pub whole : gathered f n ≡ gathered f i ++ (f i ++ rest)

pub gathered-split : {A : Type 0} (f : ℕ → List A) (n i : ℕ) → i < n → Split f n i
unfolding gathered
gathered-split f zero i l = absurd (not-suc-le-zero l)
gathered-split f (suc n) i l =
    ⊎_elim
    (λ e.
    subst (λ (j : ℕ). Split f (suc n) j) (sym e) (record { rest = []; whole = rw append-nil }))
    (λ m.
    let q = gathered-split f n i m in
    record { rest = q.rest ++ f n; whole = rw q.whole (simp append_assoc) })
    (eq-or-lt_of_le (le_of_suc-le-suc l))

pub map-gathered : {A B : Type 0} (g : A → B) (f : ℕ → List A) (n : ℕ) → map g (gathered f n) ≡ gathered (λ i. map g (f i)) n
unfolding gathered
map-gathered g f zero = refl
map-gathered g f (suc n) = rw (map-append g (gathered f n) (f n), map-gathered g f n)

module _ {A : Type 0} (f : ℕ → List A) (width : ℕ) (even : (i : ℕ) → length (f i) ≡ width) where
  pub length-gathered : (n : ℕ) → length (gathered f n) ≡ n * width
  unfolding gathered
  length-gathered zero = omega arith
  length-gathered (suc n) = omega (arith, length-append (gathered f n) (f n), length-gathered n, even n)

  -- part i of those behind a front
  pub part-gathered :
      (front : List A) (n i j : ℕ) → i < n → j ≡ length front + i * width → take width (drop j (front ++ gathered f n)) ≡ f i
  part-gathered front n i j l e =
      let q = gathered-split f n i l in
      rw (q.whole, ← append_assoc)
      (part_of (front ++ gathered f i) (f i) q.rest j width
      (length-append front (gathered f i) ∙ omega (arith, length-gathered i)) (even i))

-- The sizes of parts, and the values of part i.
module _ (f : ℕ → List ℕ) (bytes : ℕ) (even : (i : ℕ) → size (f i) ≡ bytes) where
  pub size-gathered : (n : ℕ) → size (gathered f n) ≡ n * bytes
  unfolding gathered size
  size-gathered zero = omega arith
  size-gathered (suc n) = omega (arith, size-append (gathered f n) (f n), size-gathered n, even n)

  pub values-gathered :
      (s front : List ℕ) (width n i j at : ℕ)
      → ((i : ℕ) → length (f i) ≡ width)
      → i < n
      → j ≡ length front + i * width
      → at ≡ size front + i * bytes
      → take width (drop j (values_at s 0 (front ++ gathered f n))) ≡ values_at s at (f i)
  values-gathered s front width n i j at long l ej ea =
      let q = gathered-split f n i l in
      let place : 0 + size (front ++ gathered f i) ≡ at =
      omega (arith, size-append front (gathered f i), size-gathered i)
      in
      rw (q.whole, ← append_assoc)
      (values-part s 0 (front ++ gathered f i) (f i) q.rest j width
      (length-append front (gathered f i) ∙ omega (arith, length-gathered f width long i)) (long i)
      ∙ ap (λ (k : ℕ). values_at s k (f i)) place)

pub fit-gathered : (f : ℕ → List Field) (n : ℕ) → ((i : ℕ) → i < n → EachFits (f i)) → EachFits (gathered f n)
unfolding gathered
fit-gathered f zero h = tt
fit-gathered f (suc n) h = fit_append (gathered f n) (f n) (fit-gathered f n (λ i l. h i (omega arith))) (h n (omega arith))

-- Fields behind fields in a buffer, and a loop that writes part after part: none yet, and one more.
pub stamped-stamped :
    (l : List ℕ) (us : List Field) (at : ℕ) (vs : List Field) (next : ℕ)
    → next ≡ at + size (widths us)
    → next ≤ length l
    → stamped (stamped l at us) next vs ≡ stamped l at (us ++ vs)
stamped-stamped l us at vs next e h =
    rw (bytes-append us vs) (pasted-pasted l (bytes_of us) at (bytes_of vs) next (omega (arith, length-bytes us)) h)

-- Fields are written where there is room for all of them.
pub put-each :
    (fields : List Field) (s : List ℕ) (at : ℕ) → at + size (widths fields) ≤ length s → put_each s at fields ≡ stamped s at fields
unfolding put_each bytes_of size
put-each [] s at h = sym (pasted-none s at)
put-each (f ∷ fields) s at h =
    let one : List Field = f ∷ [] in
    let same : length (stamped s at one) ≡ length s =
    length-pasted s (bytes_of one) at (omega (arith, length-bytes one))
    in
    rw (put-field s at f.width f.value (omega arith))
    (put-each fields (stamped s at one) (at + f.width) (omega arith)
    ∙ stamped-stamped s one at fields (at + f.width) (omega arith) (omega arith))

-- and behind fields that stand there
pub stamped-each :
    (l : List ℕ) (us : List Field) (at : ℕ) (vs : List Field) (next : ℕ)
    → next ≡ at + size (widths us)
    → next + size (widths vs) ≤ length l
    → put_each (stamped l at us) next vs ≡ stamped l at (us ++ vs)
stamped-each l us at vs next e h =
    let same : length (stamped l at us) ≡ length l = length-pasted l (bytes_of us) at (omega (arith, length-bytes us)) in
    put-each vs (stamped l at us) next (omega arith) ∙ stamped-stamped l us at vs next e (omega arith)

pub stamped-none : (l : List ℕ) (at : ℕ) (f : ℕ → List Field) → l ≡ stamped l at (gathered f 0)
unfolding bytes_of gathered
stamped-none l at f = sym (pasted-none l at)

module _ (l : List ℕ) (at : ℕ) (f : ℕ → List Field) (bytes : ℕ) (even : (i : ℕ) → size (widths (f i)) ≡ bytes) where
  pub stamped-more :
      (b : List ℕ) (i next : ℕ)
      → next ≡ at + i * bytes
      → next ≤ length l
      → b ≡ stamped l at (gathered f i)
      → stamped b next (f i) ≡ stamped l at (gathered f (i + 1))
  unfolding gathered
  stamped-more b i next e h same =
      let place : next ≡ at + size (widths (gathered f i)) =
      rw (map-gathered (λ (f : Field). f.width) f i) (omega (arith, size-gathered (λ i. widths (f i)) bytes even i))
      in
      rw (add-one, same) (stamped-stamped l (gathered f i) at (f i) next place h)
