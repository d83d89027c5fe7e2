-- Fields that are read from bytes and written again are these bytes.
-- Assumes nothing.
use Prim.Native.Nat.{ℕ, zero, suc, ◌+◌, ◌*◌, ◌/◌, ◌%◌, ◌^◌, ◌≤◌, ◌<◌}
use mathlib.Core.Path.{◌≡◌, refl, ◌∙◌, ap}
use mathlib.Core.List.{List, [], ◌∷◌}
use native.Mathlib.Nat.{pow-succ'}
use native.Mathlib.Decide.{dec_le}
use native.Mathlib.Omega.{arith}
use lib.ListN.{length, get_or, take, drop}
use lib.Seq.{drop-cons, drop-drop, take-add}
use borrow.Author.Tests.{le-leb, lt-leb}
use Rattle.fields.specs.Fields.{Field, widths, values, size, little_endian, bytes_of, number_from, number_at, values_at, gathered}
use Rattle.fields.proofs.Room.{some_number}
use Rattle.fields.proofs.Laws.{values-append}
use Rattle.fields.proofs.Gathered.{size-gathered}

module _ (s : List ℕ) (small : (i : ℕ) → i < length s → get_or s i 0 < 256) where
  number-again : (at w : ℕ) → at + w ≤ length s → little_endian w (number_from s at w) ≡ take w (drop at s)
  unfolding little_endian number_from
  number-again at zero h = refl
  number-again at (suc w) h =
      let b : ℕ = get_or s at 0 in
      let rest : ℕ = number_from s (suc at) w in
      let byte : b < 256 = small at (omega arith) in
      let low : (b + 256 * rest) % 256 ≡ b = omega arith in
      let high : (b + 256 * rest) / 256 ≡ rest = omega arith in
      rw (low, high, drop-cons s at 0 (omega arith)) (ap (λ (l : List ℕ). b ∷ l) (number-again (suc at) w (omega arith)))

  from-small : (at w : ℕ) → at + w ≤ length s → number_from s at w < 256 ^ w
  unfolding number_from
  from-small at zero h = omega arith
  from-small at (suc w) h =
      let byte : get_or s at 0 < 256 = small at (omega arith) in
      let rest = from-small (suc at) w (omega arith) in
      rw pow-succ' (omega arith)

  -- so many bytes say no larger number
  pub number_small : (at w : ℕ) → number_at s at w < 256 ^ w
  unfolding number_at
  number_small at w =
      elim (dec_le (at + w) (length s)) [
        | yes h ↦ rw (le-leb (at + w) (length s) h) (from-small at w h)
        | no h ↦ rw (lt-leb (at + w) (length s) (omega arith)) (some_number w)
      ]

  pub fields-again :
      (fields : List Field) (at : ℕ)
      → values fields ≡ values_at s at (widths fields)
      → at + size (widths fields) ≤ length s
      → bytes_of fields ≡ take (size (widths fields)) (drop at s)
  unfolding bytes_of size values_at number_at
  fields-again [] at e h = refl
  fields-again (f ∷ fields) at e h =
      let w : ℕ = f.width in
      let rest : ℕ = size (widths fields) in
      let there : number_at s at w ≡ number_from s at w = rw (le-leb (at + w) (length s) (omega arith)) in
      let first : f.value ≡ number_from s at w = ap (λ (l : List ℕ). get_or l 0 0) e ∙ there in
      let others = fields-again fields (at + w) (ap (λ (l : List ℕ). drop 1 l) e) (omega arith) in
      rw (first, number-again at w (omega arith), others, take-add w rest (drop at s), drop-drop w at s)

-- Parts of one shape, one behind another: the values of all are those of each; and parts that are the same are the same together.
pub values-spread :
    (f : ℕ → List ℕ) (bytes : ℕ)
    → ((i : ℕ) → size (f i) ≡ bytes)
    → (s : List ℕ) (at n : ℕ)
    → values_at s at (gathered f n) ≡ gathered (λ i. values_at s (at + i * bytes) (f i)) n
unfolding gathered values_at
values-spread f bytes even s at zero = refl
values-spread f bytes even s at (suc n) =
    rw (values-append s at (gathered f n) (f n), size-gathered f bytes even n, values-spread f bytes even s at n)

pub gathered-same : {A : Type 0} (f g : ℕ → List A) (n : ℕ) → ((i : ℕ) → i < n → f i ≡ g i) → gathered f n ≡ gathered g n
unfolding gathered
gathered-same f g zero h = refl
gathered-same f g (suc n) h = rw (gathered-same f g n (λ i l. h i (omega arith)), h n (omega arith))
