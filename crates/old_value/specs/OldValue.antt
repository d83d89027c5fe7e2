-- Fingerprints as they were before document 02, A.4, when byte b had the value b. The theorems of this crate alone speak of them.
use Rattle.std.specs.Prelude.{ℕ, ◌+◌, ◌*◌, ◌%◌, Bool, List, [], ◌∷◌, eqb}
use Rattle.fingerprint.specs.declared.Key.{Key}
use Rattle.fingerprint.specs.Fingerprint.{p, key_number}

-- "One byte b more turns f into (f × r + b) mod p" (document 01): f, taken on over bytes.
unfoldable pub old_from : ℕ → ℕ → List ℕ → ℕ
old_from r f [] = f
old_from r f (b ∷ bytes) = old_from r ((f * r + b) % p) bytes

-- The fingerprint of a block. "The fingerprint of no bytes is 0."
abbrev pub old_print : Key → List ℕ → ℕ
old_print key bytes = old_from (key_number key) 0 bytes

-- Two blocks are compared by fingerprint.
abbrev pub agreed_under : Key → List ℕ → List ℕ → Bool
agreed_under key u v = eqb (old_print key u) (old_print key v)
