-- The half-made card as a function of what the maker was told and of the bytes that it took; and what is said of it and of the card.
use Rattle.std.specs.Prelude.{ℕ, ◌≤◌, ◌≡◌, true, cond, List, length, take}
use Rattle.fingerprint.specs.declared.Key.{Key}
use Rattle.fingerprint.specs.declared.Fingerprint.{Fingerprint}
use Rattle.fingerprint.specs.Fingerprint.{key_fits, empty, fp}
use Rattle.ladder.specs.Prefix.{prefix_length}
use Rattle.lists.specs.Lists.{tabulate, Bytes}
use Rattle.signature.specs.declared.Signature.{Signature}
use Rattle.signature.specs.declared.Builder.{Builder}
use Rattle.signature.specs.Signature.{max_length, length_fits, places, reached, signature_fits, builder_fits, signature_of}

-- The prints once these bytes of a pattern of m bytes are taken: those of the prefixes reached, and 0.
unfoldable pub prints_of : ℕ → Key → List ℕ → List Fingerprint
prints_of m key bytes =
    tabulate (λ i. cond (reached m (length bytes) i) (fp key (take (prefix_length m i) bytes)) empty) places

-- The half-made card of a maker that was told m and the key and took these bytes.
abbrev pub builder_of : ℕ → Key → List ℕ → Builder
builder_of m key bytes =
    record { length = m; key = key; taken = length bytes; print = fp key bytes; prints = prints_of m key bytes }

-- What holds wherever a list of the maker's calls stands: m, the key and the bytes taken fix the half-made card, and it is no misfit.
pub record MadeBuilder (m : ℕ) (key : Key) (bytes : List ℕ) (b : Builder) : Type 0 where
  pub state : b ≡ builder_of m key bytes
  pub length-fits : length_fits m ≡ true
  pub key_ok : key_fits key ≡ true
  pub all-bytes : Bytes bytes
  pub within : length bytes ≤ m
  pub fits : builder_fits b ≡ true

-- What holds of a pattern and a key from which a card was made: the card is theirs, and it is no misfit.
pub record MadeSignature (key : Key) (p : List ℕ) (card : Signature) : Type 0 where
  pub state : card ≡ signature_of key p
  pub fits : signature_fits card ≡ true
  pub not-empty : 1 ≤ length p
  pub not-overlong : length p ≤ max_length
  pub key_ok : key_fits key ≡ true
  pub all-bytes : Bytes p
