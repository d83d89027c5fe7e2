-- "A card is made from a passage" (document 01, "Whole runs").
use Rattle.std.specs.Prelude.{ℕ, ◌<◌, ◌≡◌, List, [], ◌∷◌, ◌++◌, length}
use Rattle.fingerprint.specs.declared.Key.{Key}
use Rattle.signature.specs.declared.Signature.{Signature}
use Rattle.signature.specs.declared.Builder.{Builder}
use Rattle.signature.specs.Calls.{begin_refusal, begun, push_refusal, after_push, finish_refusal, finished}

-- A list of the maker's calls, told m and the key, has taken these bytes and stands at this half-made card: "each call getting the
-- half-made card that the last one handed back or left; refused calls in between count for nothing".
pub data Making (m : ℕ) (key : Key) : List ℕ → Builder → Type 0 where
  begins : begin_refusal m key ≡ 0 → Making m key [] (begun m key)
  takes :
      {bytes : List ℕ} {b : Builder} (byte : ℕ)
      → byte < 256
      → Making m key bytes b
      → push_refusal b ≡ 0
      → Making m key (bytes ++ byte ∷ []) (after_push b byte)
  refuses-byte :
      {bytes : List ℕ} {b : Builder} (byte : ℕ)
      → Making m key bytes b
      → (push_refusal b ≡ 0 → ⊥)
      → Making m key bytes (after_push b byte)
  asks-for-card : {bytes : List ℕ} {b : Builder} → Making m key bytes b → Making m key bytes b

-- "A card is made from a passage if the maker, told the passage's length and a key, took its bytes in order and no others, and then gave
-- this card".
pub record Made (key : Key) (p : List ℕ) (card : Signature) : Type 0 where
  pub builder : Builder
  pub making : Making (length p) key p builder
  pub accepted : finish_refusal builder ≡ 0
  pub given : finished builder ≡ card
