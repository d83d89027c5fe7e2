-- The pattern's tested beginnings (document 01, "Card"), and blocks of a stream (document 01, "Whole runs").
use Rattle.std.specs.Prelude.{ℕ, zero, suc, ◌^◌, min, true, false, List, length, take, drop, leb}

-- "A block is any bytes standing together in a history or stream": the n bytes behind start s.
abbrev pub block : List ℕ → ℕ → ℕ → List ℕ
block h s n = take n (drop s h)

-- The first i, counted up from the one given, with 2^i ≥ m. The first argument bounds how far is counted.
unfoldable pub least_from : ℕ → ℕ → ℕ → ℕ
least_from zero i m = i
least_from (suc fuel) i m = elim (leb m (2 ^ i)) [ true ↦ i | false ↦ least_from fuel (suc i) m ]

-- "k is the least number with 2^k ≥ m": the number of stages of a pattern of m bytes. (m itself is far enough: 2^m ≥ m.)
unfoldable pub levels : ℕ → ℕ
levels m = least_from m 0 m

-- "Tested beginnings P_0 .. P_k have lengths 1, 2, 4 .. 2^(k-1), and last m": |P_i|, of which the first k are below m.
abbrev pub prefix_length : ℕ → ℕ → ℕ
prefix_length m i = min (2 ^ i) m

-- The tested beginning P_i of a pattern.
abbrev pub prefix : List ℕ → ℕ → List ℕ
prefix p i = take (prefix_length (length p) i) p
