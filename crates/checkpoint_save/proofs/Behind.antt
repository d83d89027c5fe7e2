-- Parking behind the used part of a buffer: what is lent is what stands behind the used length, and the front stays.
-- Assumes nothing.
use Prim.Native.Nat.{ℕ, ◌+◌, ◌-◌, ◌<◌, min}
use mathlib.Core.Path.{◌≡◌, sym, ◌∙◌, ap}
use mathlib.Core.List.{List, [], ◌++◌, append-nil}
use native.Mathlib.Nat.{le_refl}
use native.Mathlib.Decide.{dec_le}
use native.Mathlib.Omega.{arith}
use lib.ListN.{length, take, drop, length-drop, drop_of_length-le}
use lib.Seq.{take_all}
use Rattle.matcher.specs.declared.Matcher.{Matcher}
use Rattle.checkpoint_format.specs.declared.Format.{Format}
use Rattle.record.specs.Calls.{put_used}
use Rattle.checkpoint_save.specs.Calls.{save_refusal, save_used, save_buffer, behind_refusal, behind_used, behind_buffer}
use Rattle.record.proofs.Writing.{used-within}

module _ (xs : List ℕ) (used from : ℕ) (e : from ≡ min used (length xs)) where
  -- the place from which on the buffer is lent, and the part that is lent
  front_same : take from xs ≡ take used xs
  front_same =
      elim (dec_le used (length xs)) [
        | yes h ↦ let same : from ≡ used = omega arith in rw same
        | no h ↦ take_all from xs (omega arith) ∙ sym (take_all used xs (omega arith))
      ]

  rest-same : drop from xs ≡ drop used xs
  rest-same =
      elim (dec_le used (length xs)) [
        | yes h ↦ let same : from ≡ used = omega arith in rw same
        | no h ↦ drop_of_length-le xs {i = from} (omega arith) ∙ sym (drop_of_length-le xs {i = used} (omega arith))
      ]

  lent : take (length xs - from) (drop from xs) ≡ drop used xs
  lent = take_all (length xs - from) (drop from xs) (rw (length-drop from xs) (le_refl (length xs - from))) ∙ rest-same

  nothing-behind : drop (length xs - from) (drop from xs) ≡ []
  nothing-behind = drop_of_length-le (drop from xs) {i = length xs - from} (rw (length-drop from xs) (le_refl (length xs - from)))

  -- the used length and the record together are no more than the used length or the buffer
  pub behind-within :
      (judged : ℕ) (bytes : List ℕ) (bound : ℕ)
      → used < bound
      → length xs < bound
      → used + put_used judged bytes (take (length xs - from) (drop from xs)) < bound
  behind-within judged bytes bound h l =
      rw lent (omega (arith, used-within judged bytes (drop used xs), length-drop used xs))

  pub saved-behind :
      (f : Format) (w : Matcher) (n u : ℕ) (ys : List ℕ)
      → n ≡ save_refusal f w (take (length xs - from) (drop from xs))
      → u ≡ save_used f w (take (length xs - from) (drop from xs))
      → ys ≡ save_buffer f w (take (length xs - from) (drop from xs))
      → (n ≡ behind_refusal f w xs used)
      × ((used + u ≡ behind_used f w xs used)
      × (take from xs ++ (ys ++ drop (length xs - from) (drop from xs)) ≡ behind_buffer f w xs used))
  saved-behind f w n u ys en eu ey = (
    rw lent at en,
    (
      ap (λ (k : ℕ). used + k) (rw lent at eu),
      rw (nothing-behind, append-nil, front_same) (ap (λ (l : List ℕ). take used xs ++ l) (rw lent at ey)),
    ),
  )
