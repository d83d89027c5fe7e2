-- Three copies of a word close together make a fourth: the arithmetic of periods that shows a stage's starts to be evenly spaced.
use Prim.Native.Nat.{ℕ, ◌+◌, ◌-◌, ◌≤◌, ◌<◌}
use mathlib.Core.Path.{◌≡◌, sym, ap, ◌∙◌}
use mathlib.Core.List.{List}
use native.Mathlib.Decide.{dec_le}
use native.Mathlib.Omega.{arith}
use lib.ListN.{length, drop, get_or}
use lib.Seq.{get_or-take, get_or-drop, ext_get_or}
use Rattle.ladder.specs.Prefix.{block}
use Rattle.ladder.proofs.Blocks.{block-length}

-- The word w stands behind s.
abbrev pub Stands : List ℕ → List ℕ → ℕ → Type 0
Stands h w s = (i : ℕ) → i < length w → get_or h (s + i) 0 ≡ get_or w i 0

pub block-stands : (h w : List ℕ) (s : ℕ) → block h s (length w) ≡ w → Stands h w s
block-stands h w s e i l =
    sym (get_or-take (length w) (drop s h) i 0 l ∙ get_or-drop s h i 0) ∙ ap (λ v. get_or v i 0) e

pub stands-block : (h w : List ℕ) (s : ℕ) → s + length w ≤ length h → Stands h w s → block h s (length w) ≡ w
stands-block h w s l q =
    ext_get_or 0 (block h s (length w)) w (block-length h s (length w) l)
    (λ i o.
    let j : i < length w = omega (arith, block-length h s (length w) l) in
    get_or-take (length w) (drop s h) i 0 j ∙ get_or-drop s h i 0 ∙ q i j)

-- Copies at x, at x + d, and e further.
module _
    (h w : List ℕ) (x d e : ℕ)
    (first : Stands h w x) (second : Stands h w (x + d)) (third : Stands h w (x + d + e))
    (near : d + e ≤ length w)
  where
    at : (v : List ℕ) (i j : ℕ) → i ≡ j → get_or v i 0 ≡ get_or v j 0
    at v i j q = ap (λ n. get_or v n 0) q

    period-d : (i : ℕ) → d + i < length w → get_or w (d + i) 0 ≡ get_or w i 0
    period-d i l = sym (first (d + i) l) ∙ at h (x + (d + i)) (x + d + i) (omega arith) ∙ second i (omega arith)

    period-e : (i : ℕ) → e + i < length w → get_or w (e + i) 0 ≡ get_or w i 0
    period-e i l = sym (second (e + i) l) ∙ at h (x + d + (e + i)) (x + d + e + i) (omega arith) ∙ third i (omega arith)

    -- If e < d, one stands between the first two.
    pub copy-before : e < d → Stands h w (x + (d - e))
    copy-before o i l =
        elim (dec_le e i) [
          | yes a ↦
              at h (x + (d - e) + i) (x + d + (i - e)) (omega arith)
              ∙ second (i - e) (omega arith)
              ∙ sym (period-e (i - e) (omega arith))
              ∙ at w (e + (i - e)) i (omega arith)
          | no a ↦
              at h (x + (d - e) + i) (x + (d - e + i)) (omega arith)
              ∙ first (d - e + i) (omega arith)
              ∙ sym (period-e (d - e + i) (omega arith))
              ∙ at w (e + (d - e + i)) (d + i) (omega arith)
              ∙ period-d i (omega arith)
        ]

    -- If d < e, one stands between the last two.
    pub copy-behind : d < e → Stands h w (x + d + d)
    copy-behind o i l =
        elim (dec_le (length w) (d + i)) [
          | yes a ↦
              at h (x + d + d + i) (x + d + e + (d + i - e)) (omega arith)
              ∙ third (d + i - e) (omega arith)
              ∙ at w (d + i - e) (d + (i - e)) (omega arith)
              ∙ period-d (i - e) (omega arith)
              ∙ sym (period-e (i - e) (omega arith))
              ∙ at w (e + (i - e)) i (omega arith)
          | no a ↦
              at h (x + d + d + i) (x + d + (d + i)) (omega arith)
              ∙ second (d + i) (omega arith)
              ∙ period-d i (omega arith)
        ]
