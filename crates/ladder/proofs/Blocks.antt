-- Blocks of a stream and tested beginnings: a block inside a beginning of the stream is one of the stream, and the front of a block is one.
use Prim.Native.Nat.{ℕ, zero, suc, ◌+◌, ◌≤◌}
use mathlib.Core.Path.{◌≡◌, refl, sym, ap, ◌∙◌}
use mathlib.Core.List.{List, [], ◌∷◌}
use native.Mathlib.Omega.{arith}
use lib.ListN.{length, take, drop, length-take, length-drop}
use lib.Seq.{take-take, take-length}
use Rattle.ladder.specs.Prefix.{block, levels, prefix_length, prefix}
use Rattle.ladder.proofs.Levels.{last-length, length-mono}

pub block-take : (T s n : ℕ) (h : List ℕ) → s + n ≤ T → block (take T h) s n ≡ block h s n
block-take T zero n h l = take-take n T h (omega arith)
block-take zero (suc s) n h l = absurd (omega arith)
block-take (suc T) (suc s) n [] l = refl
block-take (suc T) (suc s) n (x ∷ xs) l = block-take T s n xs (omega arith)

pub block-front : (h : List ℕ) (s n m : ℕ) → n ≤ m → take n (block h s m) ≡ block h s n
block-front h s n m l = take-take n m (drop s h) l

pub block-length : (h : List ℕ) (s n : ℕ) → s + n ≤ length h → length (block h s n) ≡ n
block-length h s n l = simp (length-take, length-drop) (omega arith)

-- Where a tested beginning stands, the shorter ones stand.
pub prefix-front :
    (p h : List ℕ) (s i j : ℕ)
    → i ≤ j
    → block h s (prefix_length (length p) j) ≡ prefix p j
    → block h s (prefix_length (length p) i) ≡ prefix p i
prefix-front p h s i j l e =
    sym (block-front h s _ _ (length-mono (length p) i j l))
    ∙ ap (take (prefix_length (length p) i)) e
    ∙ take-take _ _ p (length-mono (length p) i j l)

-- P_k is the pattern.
pub prefix-whole : (p : List ℕ) → prefix p (levels (length p)) ≡ p
prefix-whole p = ap (λ n. take n p) (last-length (length p)) ∙ take-length p
