-- What the plain search says, in the words of document 01's own definitions: occurrences and collisions (crate `ladder`), fingerprints
-- (crate `fingerprint`).
use Rattle.std.specs.Prelude.{ℕ, ◌+◌, ◌≤◌, ◌≡◌, Bool, true, List, length}
use Rattle.fingerprint.specs.Fingerprint.{fp, numbered_key, print_number}
use Rattle.ladder.specs.Prefix.{block}

-- The answer b is true where P holds, and nowhere else.
pub record Decides (b : Bool) (P : Type 0) : Type 0 where
  pub only : b ≡ true → P
  pub wherever : P → b ≡ true

-- The fingerprint of the n bytes of h behind start s.
abbrev pub block_print : ℕ → List ℕ → ℕ → ℕ → ℕ
block_print key h s n = print_number (fp (numbered_key key) (block h s n))

-- A twin of the block b in h: as long a block behind start s that has its fingerprint and differs from it.
pub record Twin (key : ℕ) (b h : List ℕ) (s : ℕ) : Type 0 where
  pub inside : s + length b ≤ length h
  pub differs : block h s (length b) ≡ b → ⊥
  pub agrees : block_print key h s (length b) ≡ print_number (fp (numbered_key key) b)

abbrev pub HasTwin : ℕ → List ℕ → List ℕ → Type 0
HasTwin key b h = (s : ℕ) × Twin key b h s
