-- What is promised of reads and writes. Which bytes a read brings, and how many, and whether it fails, the system decides; so it does whether a
-- write fails.
use Rattle.std.specs.Prelude.{ℕ, ◌≡◌, ◌≤◌, Result, Ok, Err, IfErr, MatchResult, List, length, take}
use Rattle.descriptor.specs.declared.Failed.{Failed}

-- `&xs[..n]` lies within xs and has n bytes.
abbrev pub IsPrefixLen : ℕ → List ℕ → Type 0
IsPrefixLen n xs = (n ≤ length xs) × (n ≡ length (take n xs))

-- How many bytes were read, also where a read failed behind them.
abbrev pub count_of : Result ℕ Failed → ℕ
count_of (Ok count) = count
count_of (Err failed) = failed.count

-- The bytes counted lie at the buffer's front.
abbrev pub Reads : Result ℕ Failed → List ℕ → Type 0
Reads r buf = IsPrefixLen (count_of r) buf

-- A single read that failed brought none.
abbrev pub ReadOnce : Result ℕ Failed → List ℕ → Type 0
ReadOnce r buf = Reads r buf × IfErr r (λ failed. failed.count ≡ 0)

-- All of the bytes were handed to a write and taken, or none count.
abbrev pub Writes : Result ℕ Failed → List ℕ → Type 0
Writes r bytes = MatchResult r (λ count. count ≡ length bytes) (λ failed. failed.count ≡ 0)
