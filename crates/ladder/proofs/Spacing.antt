-- If all copies of a word are listed, a newcomer stands as far behind the last one as that one does behind the one before it.
use Prim.Native.Nat.{ℕ, ◌+◌, ◌-◌, ◌≤◌, ◌<◌}
use mathlib.Core.Path.{◌≡◌, sym, subst}
use mathlib.Core.List.{List}
use native.Mathlib.Decide.{dec_le}
use native.Mathlib.Omega.{arith}
use lib.ListN.{length}
use Rattle.ladder.proofs.Starts.{Has}
use Rattle.ladder.proofs.Periods.{Stands, copy-before, copy-behind}
use Rattle.ladder.proofs.Even.{Prior}

module _
    (h word starts : List ℕ) (d last z : ℕ) (before : Prior d starts last) (positive : 0 < d) (above : last < z)
    (near : d + (z - last) ≤ length word)
    (first : Stands h word before.start) (second : Stands h word last) (third : Stands h word z)
    (greatest : (s : ℕ) → Has starts s → s ≤ last)
    (full : (s : ℕ) → Stands h word s → before.start < s → s < z → Has starts s)
  where
    second' : Stands h word (before.start + d)
    second' = subst (Stands h word) (sym before.gap) second

    third' : Stands h word (before.start + d + (z - last))
    third' = subst (Stands h word) (omega (arith, before.gap)) third

    -- a smaller gap would put one between the last two, a greater one between the last and the newcomer
    not-less : z - last < d → ⊥
    not-less o =
        let between : Has starts (before.start + (d - (z - last))) =
        full _ (copy-before h word before.start d (z - last) first second' third' near o) (omega arith)
        (omega (arith, before.gap))
        in
        omega (arith, before.gap, before.next (before.start + (d - (z - last))) between (omega arith))

    not_more : d < z - last → ⊥
    not_more o =
        let between : Has starts (before.start + d + d) =
        full _ (copy-behind h word before.start d (z - last) first second' third' near o) (omega arith)
        (omega (arith, before.gap))
        in
        omega (arith, before.gap, greatest (before.start + d + d) between)

    pub spacing : z - last ≡ d
    spacing =
        elim (dec_le (z - last) d) [
          | yes a ↦ elim (dec_le d (z - last)) [ yes b ↦ omega arith | no n ↦ absurd (not-less (omega arith)) ]
          | no n ↦ absurd (not_more (omega arith))
        ]
