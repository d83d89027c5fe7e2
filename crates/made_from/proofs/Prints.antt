-- The table of prints: at no bytes, with one byte more, and at all m bytes; and that it is never a misfit.
use Prim.Native.Nat.{ℕ, suc, ◌≤◌, ◌<◌}
use mathlib.Core.Path.{◌≡◌, refl, ◌∙◌}
use mathlib.Core.Bool.{Bool, true, false, cond, ◌&&◌, and-true}
use mathlib.Core.List.{List, [], ◌∷◌, ◌++◌}
use native.Mathlib.Decide.{dec_le}
use native.Mathlib.Numerals.{add-one}
use native.Mathlib.Omega.{arith}
use lib.ListN.{length, take, replicate, length-append}
use lib.Seq.{take-nil, take_all, take-append-le}
use lib.Dec.{leb, eqb}
use borrow.Author.Tests.{le-leb, lt-leb, eq-eqb, ne_eqb}
use Rattle.fingerprint.specs.declared.Key.{Key}
use Rattle.fingerprint.specs.declared.Fingerprint.{Fingerprint}
use Rattle.fingerprint.specs.Fingerprint.{Below, empty, fp, print_fits, same, extended}
use Rattle.fingerprint.proofs.Laws.{same_self, below-fits, fp-below, fp-byte, byte-is}
use Rattle.ladder.specs.Prefix.{levels, prefix_length, prefix}
use Rattle.ladder.proofs.Levels.{first-length}
use Rattle.lists.specs.Lists.{tabulate}
use Rattle.lists.proofs.Laws.{every-intro, length-tabulate, get_d_tabulate, tabulated}
use Rattle.signature.specs.Signature.{places, reached, first_fits, prints_fit, stored}
use Rattle.lists.specs.Lists.{Bytes}
use Rattle.made_from.specs.MadeFrom.{prints_of}

-- tables with equal entries are equal
same-table :
    (f g : ℕ → Fingerprint) (n : ℕ) → ((i : ℕ) → i < n → f i ≡ g i) → tabulate f n ≡ tabulate g n
same-table f g n h =
    tabulated g n empty (tabulate f n) (length-tabulate f n) (λ i l. get_d_tabulate f n i empty l ∙ h i l)

pub length-snoc : (bytes : List ℕ) (byte : ℕ) → length (bytes ++ byte ∷ []) ≡ suc (length bytes)
length-snoc bytes byte = length-append bytes (byte ∷ []) ∙ add-one (length bytes)

-- the entry of the table at place i: the print of P_i if the bytes reach it
abbrev entry : ℕ → Key → List ℕ → ℕ → Fingerprint
entry m key bytes i = cond (reached m (length bytes) i) (fp key (take (prefix_length m i) bytes)) empty

either : (t : Bool) → empty ≡ cond t empty empty
either true = refl
either false = refl

-- no bytes
pub no-prints : (m : ℕ) (key : Key) → replicate places empty ≡ prints_of m key []
unfolding prints_of extended tabulate
no-prints m key =
    same-table (λ i. empty) (entry m key []) places (λ i l. rw (take-nil (prefix_length m i)) (either (reached m 0 i)))

-- all of the m bytes: every P_i with i up to k is reached
pub all-prints :
    (key : Key) (p : List ℕ)
    → prints_of (length p) key p ≡ tabulate (λ i. cond (leb i (levels (length p))) (fp key (prefix p i)) empty) places
unfolding prints_of
all-prints key p =
    same-table _ _ places
    (λ i l. rw (le-leb (prefix_length (length p) i) (length p) (omega arith), and-true (leb i (levels (length p)))))

-- A prefix of n bytes, tested or not: one that was reached stays, one that the byte completes has the running print, a longer one waits.
one-print :
    (tested : Bool) (n : ℕ) (key : Key) (bytes : List ℕ) (byte : ℕ)
    → cond (tested && eqb n (suc (length bytes))) (fp key (bytes ++ byte ∷ []))
    (cond (tested && leb n (length bytes)) (fp key (take n bytes)) empty)
    ≡ cond (tested && leb n (suc (length bytes))) (fp key (take n (bytes ++ byte ∷ []))) empty
one-print false n key bytes byte = refl
one-print true n key bytes byte =
    elim (dec_le n (length bytes)) [
      | yes a ↦
          rw (
            ne_eqb n (suc (length bytes)) (λ e. omega arith),
            le-leb n (length bytes) a,
            le-leb n (suc (length bytes)) (omega arith),
            take-append-le n bytes (byte ∷ []) a,
          )
      | no a ↦
          elim (dec_le n (suc (length bytes))) [
            | yes b ↦
                rw (
                  eq-eqb n (suc (length bytes)) (omega arith),
                  le-leb n (suc (length bytes)) b,
                  take_all n (bytes ++ byte ∷ []) (rw length-append (omega arith)),
                )
            | no b ↦
                rw (
                  ne_eqb n (suc (length bytes)) (λ e. omega arith),
                  lt-leb n (length bytes) (omega arith),
                  lt-leb n (suc (length bytes)) (omega arith),
                )
          ]
    ]

-- one byte more
pub more-prints :
    (m : ℕ) (key : Key) (bytes : List ℕ) (byte : ℕ)
    → stored m (suc (length bytes)) (fp key (bytes ++ byte ∷ [])) (prints_of m key bytes)
    ≡ prints_of m key (bytes ++ byte ∷ [])
unfolding stored prints_of
more-prints m key bytes byte =
    same-table _ _ places
    (λ i l. rw (length-snoc, get_d_tabulate (entry m key bytes) places i empty l)
    (one-print (leb i (levels m)) (prefix_length m i) key bytes byte))

-- an entry is below p, or 0 where it is not reached
print-fits :
    (t : Bool) (f : Fingerprint)
    → Below f
    → cond t (print_fits (cond t f empty)) (same (cond t f empty) empty) ≡ true
print-fits true f h = below-fits f h
print-fits false f h = same_self empty

-- the first byte reaches the first entry, which is then that of a byte
first_fits_lem : (m : ℕ) (key : Key) (bytes : List ℕ) → 1 ≤ m → Bytes bytes → first_fits (length bytes) (entry m key bytes 0) ≡ true
first_fits_lem m key [] long all = refl
first_fits_lem m key (b ∷ bytes) long all =
    rw (
      ne_eqb (length (b ∷ bytes)) 0 (λ e. omega arith),
      first-length m long,
      le-leb 0 (levels m) (omega arith),
      le-leb 1 (length (b ∷ bytes)) (omega arith),
      fp-byte key b,
    )
    (byte-is b (all 0 (omega arith)))

-- the table is no misfit
pub prints-fit :
    (m : ℕ) (key : Key) (bytes : List ℕ) → 1 ≤ m → Bytes bytes → prints_fit m (length bytes) (prints_of m key bytes) ≡ true
unfolding prints_fit prints_of
prints-fit m key bytes long all =
    rw (get_d_tabulate (entry m key bytes) places 0 empty (omega arith), first_fits_lem m key bytes long all)
    (every-intro _ places
    (λ i l. rw (get_d_tabulate (entry m key bytes) places i empty l)
    (print-fits (reached m (length bytes) i) (fp key (take (prefix_length m i) bytes))
    (fp-below key (take (prefix_length m i) bytes)))))
