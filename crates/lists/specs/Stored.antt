-- What a function promises that stores numbers into a list from a place on, and hands back the place behind them.
use Rattle.std.specs.Prelude.{ℕ, ◌+◌, ◌≤◌, ◌≡◌, List, length}
use Rattle.std.proofs.lemmas.List.Edits.{sets}

-- Into `entry` at `at` the elements were stored, one by one and at most so many; `exit` is the list then, and `next` the place behind them.
pub record Stored (entry : List ℕ) (at : ℕ) (elements : List ℕ) (most next : ℕ) (exit : List ℕ) : Type 0 where
  pub behind : next ≡ at + length elements
  pub within : length elements ≤ most
  pub buffer : exit ≡ sets entry at elements
