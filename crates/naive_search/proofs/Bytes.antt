-- Blocks byte by byte, and their fingerprints. Assumes nothing.
use Prim.Native.Nat.{ℕ, ◌+◌, ◌<◌, ◌≤◌}
use mathlib.Core.Path.{◌≡◌, sym, ap, ◌∙◌}
use mathlib.Core.List.{List}
use native.Mathlib.Numerals.{add-one}
use lib.ListN.{length, take, get_or}
use lib.Seq.{take-suc, take-add}
use Rattle.fingerprint.specs.declared.Key.{Key}
use Rattle.fingerprint.specs.Fingerprint.{fp, pushed, rest, rest_by, power}
use Rattle.fingerprint.proofs.Laws.{fp-push, fp-cut, rest-by}
use Rattle.ladder.specs.Prefix.{block}
use Rattle.ladder.proofs.Blocks.{block-length}

-- The fingerprint of a front with one byte more.
pub fp-front :
    (key : Key) (l : List ℕ) (i : ℕ)
    → i < length l
    → fp key (take (i + 1) l) ≡ pushed key (fp key (take i l)) (get_or l i 0)
fp-front key l i lt = rw (add-one, take-suc l i 0) (fp-push key (take i l) (get_or l i 0))

-- The fingerprint of a block from those of the bytes up to its end and up to its start.
pub fp-block :
    (key : Key) (h : List ℕ) (s n : ℕ)
    → s + n ≤ length h
    → rest_by (power key n) (fp key (take (s + n) h)) (fp key (take s h)) ≡ fp key (block h s n)
fp-block key h s n l =
    rest-by key (fp key (take (s + n) h)) (fp key (take s h)) n
    ∙ ap (λ (k : ℕ). rest key (fp key (take (s + n) h)) (fp key (take s h)) k) (sym (block-length h s n l))
    ∙ ap (λ (x : List ℕ). rest key (fp key x) (fp key (take s h)) (length (block h s n))) (take-add s n h)
    ∙ fp-cut key (take s h) (block h s n)
