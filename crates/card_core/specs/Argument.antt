-- The key as an argument, which is a decimal number.
use Rattle.std.specs.Prelude.{ℕ, min}
use Rattle.fingerprint.specs.declared.Key.{Key}
use Rattle.fingerprint.specs.Fingerprint.{numbered_key}

-- The largest number that a key's field of 32 bits holds.
abbrev pub most_key : ℕ
most_key = 4294967295

-- The key of a number: one that is too large for a key's field is refused as the largest that fits is.
abbrev pub argument_key : ℕ → Key
argument_key n = numbered_key (min n most_key)
