-- Sizes in bytes.
use Rattle.std.specs.Prelude.{ℕ}

-- "98 bytes, the longest card record".
abbrev pub longest_signature : ℕ
longest_signature = 98
