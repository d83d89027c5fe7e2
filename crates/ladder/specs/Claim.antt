-- What demand 3 says of a history: the bytes h, and the answer given at each. It does not say how the answers came about: the ladder's
-- theorem and the whole-run theorem both end in `Claim` (document 01, "Whole runs").
use Rattle.std.specs.Prelude.{ℕ, zero, suc, ◌+◌, ◌≤◌, ◌<◌, ◌≡◌, ◌⊎◌, Bool, true, cond, List, [], ◌∷◌, ◌++◌, length, take, eqb}
use Rattle.std.proofs.Math.Option.{some}
use Rattle.ladder.specs.Prefix.{block, levels, prefix_length, prefix}
use Rattle.ladder.specs.Ladder.{Progression, Answer}

-- "A true occurrence is a start behind which at least m bytes stand, the first m being the passage; its last byte is number start + m".
pub record Occurrence (p h : List ℕ) (s : ℕ) : Type 0 where
  pub inside : s + length p ≤ length h
  pub same : block h s (length p) ≡ p

-- "A set (first, step, how many) sets aside first, first + step and so on, that many starts."
unfoldable pub starts_from : ℕ → ℕ → ℕ → List ℕ
starts_from first step zero = []
starts_from first step (suc many) = first ∷ starts_from (first + step) step many

-- the starts that a list of sets sets aside
unfoldable pub starts_of : List Progression → List ℕ
starts_of [] = []
starts_of (a ∷ more) = starts_from a.first a.step a.many ++ starts_of more

-- how often a start stands in a list
unfoldable pub times : ℕ → List ℕ → ℕ
times s [] = 0
times s (x ∷ xs) = cond (eqb x s) (suc (times s xs)) (times s xs)

-- The start s is rung by an answer.
abbrev pub Rings : Answer → ℕ → Type 0
Rings a s = a.ring ≡ some s

-- The start s is set aside by an answer.
abbrev pub SetsAside : Answer → ℕ → Type 0
SetsAside a s = 0 < times s (starts_of a.aside)

-- A collision in a history: "some block of the history .. differs from a tested beginning of the passage that has the same length and
-- fingerprint": the block behind `start`, and P_index.
pub record Collision (agree : List ℕ → List ℕ → Bool) (p h : List ℕ) : Type 0 where
  pub start : ℕ
  pub index : ℕ
  pub tested : index ≤ levels (length p)
  pub inside : start + prefix_length (length p) index ≤ length h
  pub differs : block h start (prefix_length (length p) index) ≡ prefix p index → ⊥
  pub agrees : agree (block h start (prefix_length (length p) index)) (prefix p index) ≡ true

-- Demand 3 of the history whose bytes are h and whose answer at byte number n, counted from 1, is `answers n`.
pub record Claim (agree : List ℕ → List ℕ → Bool) (p h : List ℕ) (answers : ℕ → Answer) : Type 0 where
  -- "each true occurrence was rung at its last byte or set aside at an earlier one"
  pub found :
      (s : ℕ)
      → Occurrence p h s
      → Rings (answers (s + length p)) s ⊎ ((n : ℕ) × (0 < n) × (n < s + length p) × SetsAside (answers n) s)
  -- "never both"
  pub not-both : (s n n' : ℕ) → n ≤ length h → n' ≤ length h → Rings (answers n) s → SetsAside (answers n') s → ⊥
  -- nor is a start rung or set aside twice
  pub rung-once : (s n n' : ℕ) → n ≤ length h → n' ≤ length h → Rings (answers n) s → Rings (answers n') s → n ≡ n'
  pub aside-once :
      (s n n' : ℕ)
      → n ≤ length h
      → n' ≤ length h
      → SetsAside (answers n) s
      → SetsAside (answers n') s
      → n ≡ n'
  pub aside-in-one-set : (s n : ℕ) → n ≤ length h → times s (starts_of (answers n).aside) ≤ 1
  -- "A false ring was given .. only if some block of the history up to that byte .." ("a ring is false if its start is no true occurrence
  -- with its last byte there")
  pub false-ring :
      (s n : ℕ)
      → n ≤ length h
      → Rings (answers n) s
      → (Occurrence p h s × (n ≡ s + length p) → ⊥)
      → Collision agree p (take n h)
  -- ".. or a set was set aside, only if some block of the history up to that byte .."
  pub aside-collides : (n : ℕ) → n ≤ length h → ((answers n).aside ≡ [] → ⊥) → Collision agree p (take n h)
  -- "No byte .. has more comparisons in its answer than 1 + the number of the watch's stages."
  pub ceiling : (n : ℕ) → n ≤ length h → (answers n).comparisons ≤ suc (levels (length p))
