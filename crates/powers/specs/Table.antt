-- What is seen of a table of powers: whose powers they are, and up to how many bytes the passages have that it was made for.
use Rattle.std.specs.Prelude.{ℕ}
use Rattle.fingerprint.specs.declared.Key.{Key}

pub record Table : Type 0 where
  pub key : Key
  pub most : ℕ
