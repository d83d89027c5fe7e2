-- Runs of stores: the digits of a number, and a whole run that had room leaves the buffer of the public contracts.
-- Assumes nothing.
use Prim.Native.Nat.{ℕ, ◌+◌, ◌≤◌, ◌<◌}
use mathlib.Core.Path.{◌≡◌, refl, ◌∙◌, ap}
use mathlib.Core.List.{List}
use native.Mathlib.Omega.{arith}
use lib.ListN.{length}
use lib.Seq.{sets-eq}
use borrow.Author.Tests.{le-leb, lt-leb}
use Rattle.lists.specs.Stored.{Stored}
use Rattle.decimal.specs.Decimal.{decimal, put_limit, most_put, place_behind, buffer_with}
use Rattle.decimal.proofs.Digits.{put-length}
use Rattle.decimal.proofs.Putting.{put-room}
use Rattle.std.proofs.Common.{None, Some}
use Rattle.report_lines.specs.Lines.{room, placed, written}

-- a number's digits
pub number :
    {l l' : List ℕ} {at n r : ℕ}
    → n < put_limit
    → at + most_put ≤ length l
    → r ≡ place_behind l at n
    → l' ≡ buffer_with l at n
    → Stored l at (decimal n) most_put r l'
number {l} {at = at} {n} h room p e =
    let few = put-length n h in
    let q = put-room l at n (omega arith) in
    record { behind = p ∙ q.0; within = few; buffer = e ∙ q.1 }

-- with room for all of it, a run is what the public contracts say
pub finish :
    {l l' : List ℕ} {at r : ℕ} {xs : List ℕ} {a : ℕ}
    → at + room ≤ length l
    → Stored l at xs a r l'
    → a ≤ room
    → (Some r ≡ placed l at xs) × (l' ≡ written l at xs)
unfolding placed written
finish {l} {at = at} {xs = xs} h p k =
    rw (le-leb (at + room) (length l) h)
    (ap Some p.behind, p.buffer ∙ sets-eq xs l at (omega arith))

-- and without room nothing is stored
pub refuse : (l : List ℕ) (at : ℕ) (xs : List ℕ) → length l < at + room → (None ≡ placed l at xs) × (l ≡ written l at xs)
unfolding placed written
refuse l at xs h = rw (lt-leb (at + room) (length l) h) (refl, refl)
