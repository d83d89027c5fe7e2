-- Runs of stores: one run behind another is the run of both; a run over the elements of a list, one after another.
-- Assumes nothing.
use Prim.Native.Nat.{ℕ, ◌+◌, ◌≤◌, ◌<◌, min}
use mathlib.Core.Path.{◌≡◌, refl, sym, ◌∙◌}
use mathlib.Core.List.{List, [], ◌∷◌, ◌++◌, flat_map, append-nil, append_assoc}
use native.Mathlib.Nat.{min-eq_left}
use native.Mathlib.Decide.{dec_le}
use native.Mathlib.Numerals.{add-one}
use native.Mathlib.Omega.{arith}
use lib.ListN.{length, set, take, get_or, length-append}
use lib.Seq.{length-sets, take-suc, take_all}
use Rattle.lists.specs.Stored.{Stored}
use Rattle.lists.proofs.Stores.{sets-append}

-- one element
pub one : (l : List ℕ) (at b : ℕ) → Stored l at (b ∷ []) 1 (at + 1) (set l at b)
one l at b = record { behind = omega arith; within = omega arith; buffer = refl }

-- one run behind another
pub run :
    {l l' l'' : List ℕ} {at m r : ℕ} {xs ys : List ℕ} {a b : ℕ}
    → Stored l at xs a m l'
    → Stored l' m ys b r l''
    → Stored l at (xs ++ ys) (a + b) r l''
run {l} {at = at} {xs = xs} {ys = ys} p q =
    record {
      behind = simp length-append (omega arith);
      within = simp length-append (omega arith);
      buffer = q.buffer ∙ rw (p.buffer, p.behind) (sym (sets-append xs ys l at));
    }

-- a greater bound
pub at_most : {l l' : List ℕ} {at m : ℕ} {xs : List ℕ} {a b : ℕ} → a ≤ b → Stored l at xs a m l' → Stored l at xs b m l'
at_most h p = record { behind = p.behind; within = omega arith; buffer = p.buffer }

-- nothing
pub nothing : (l : List ℕ) (at : ℕ) → Stored l at [] 0 at l
nothing l at = record { behind = omega arith; within = omega arith; buffer = refl }

-- what stands for a list's last element stands behind what stands for the others
flat_map-last : {A : Type 0} (f : A → List ℕ) (es : List A) (e : A) → flat_map f (es ++ e ∷ []) ≡ flat_map f es ++ f e
unfolding flat_map
flat_map-last f [] e = append-nil (f e)
flat_map-last f (x ∷ es) e = rw (flat_map-last f es e) (sym (append_assoc (f x) (flat_map f es) (f e)))

-- a run over the first elements of a list, and one element more
pub run_more :
    {A : Type 0} (f : A → List ℕ) (es : List A) (i : ℕ) (d : A) {l l' l'' : List ℕ} {at m r : ℕ} {a b : ℕ}
    → i < length es
    → Stored l at (flat_map f (take i es)) a m l'
    → Stored l' m (f (get_or es i d)) b r l''
    → Stored l at (flat_map f (take (i + 1) es)) (a + b) r l''
run_more f es i d h p q = rw (add-one, take-suc es i d h, flat_map-last) (run p q)

-- stores keep the list's length
pub same_size : {l l' : List ℕ} {at m : ℕ} {xs : List ℕ} {a : ℕ} → Stored l at xs a m l' → length l' ≡ length l
same_size {l} {at = at} {xs = xs} p = rw p.buffer (length-sets l at xs)

-- taking as many as there are, where more are asked for
pub take-capped : {A : Type 0} (n : ℕ) (l : List A) → take (min n (length l)) l ≡ take n l
take-capped n l =
    elim (dec_le n (length l)) [
      | yes k ↦ rw (min-eq_left k)
      | no k ↦ take_all (min n (length l)) l (omega arith) ∙ sym (take_all n l (omega arith))
    ]
