-- A write that did not fail counts all of its bytes.
-- Assumes nothing.
use Rattle.std.proofs.Common.{ℕ, ◌≤◌, ◌≡◌, ◌∙◌, Ok, List, length, take}
use Rattle.std.proofs.lemmas.List.{length-take-le}
use Rattle.descriptor.specs.Reads.{Writes}

-- the first n bytes of a buffer were written
pub all-written : (count : ℕ) (buf : List ℕ) (n : ℕ) → n ≤ length buf → Writes (Ok count) (take n buf) → count ≡ n
all-written count buf n l w = w ∙ length-take-le n buf l
