-- What a test over places tells of each place, and what a table holds at each; a loop that tests or fills place after place.
-- Assumes nothing.
use Prim.Native.Nat.{ℕ, zero, suc, ◌+◌, ◌<◌}
use mathlib.Core.Path.{◌≡◌, refl, sym, ◌∙◌, subst}
use mathlib.Core.Logic.{⊎_elim}
use mathlib.Core.Bool.{Bool, true, false, ◌&&◌}
use mathlib.Core.List.{List, [], ◌∷◌, ◌++◌, map}
use native.Mathlib.Nat.{not-suc-le-zero, eq-or-lt_of_le, le_of_suc-le-suc, le_refl}
use native.Mathlib.Numerals.{add-one}
use native.Mathlib.Omega.{arith}
use lib.ListN.{length, take, set, get_or, length-append, length-map, get_or-append}
use lib.Seq.{take-suc-set, take_all, get_or_at, ext_get_or}
use Rattle.lists.specs.Lists.{every, tabulate}

pub and_left : (a b : Bool) → a && b ≡ true → a ≡ true
and_left true b e = refl
and_left false b e = e

pub and_right : (a b : Bool) → a && b ≡ true → b ≡ true
and_right true b e = e
and_right false b e = cc

pub and_both : {a b : Bool} → a ≡ true → b ≡ true → a && b ≡ true
and_both ha hb = rw (ha, hb)

pub every-none : (test : ℕ → Bool) → every test 0 ≡ true
unfolding every
every-none test = refl

-- one place more
pub every_more : (test : ℕ → Bool) (n : ℕ) → every test n ≡ true → test n ≡ true → every test (n + 1) ≡ true
unfolding every
every_more test n h t = rw (add-one, h, t)

-- what passes everywhere passes at each place
pub every-at : (test : ℕ → Bool) (n : ℕ) → every test n ≡ true → (i : ℕ) → i < n → test i ≡ true
unfolding every
every-at test zero h i l = absurd (not-suc-le-zero l)
every-at test (suc n) h i l =
    ⊎_elim (λ e. subst (λ (j : ℕ). test j ≡ true) (sym e) (and_right (every test n) (test n) h))
    (λ m. every-at test n (and_left (every test n) (test n) h) i m)
    (eq-or-lt_of_le (le_of_suc-le-suc l))

pub every-intro : (test : ℕ → Bool) (n : ℕ) → ((i : ℕ) → i < n → test i ≡ true) → every test n ≡ true
unfolding every
every-intro test zero h = refl
every-intro test (suc n) h = and_both (every-intro test n (λ i l. h i (omega arith))) (h n (le_refl (suc n)))

-- a test that fails at one place fails
pub every-fails : (test : ℕ → Bool) (n i : ℕ) → i < n → test i ≡ false → every test n ≡ false
every-fails test n i l f = go (every test n) refl
  where
    go : (b : Bool) → every test n ≡ b → every test n ≡ false
    go true e = let t : test i ≡ true = every-at test n e i l in cc
    go false e = e

-- the length of an array of structs, which a function's record gives by its elements' values
pub counted-elements : {A B : Type 0} (f : A → B) (l : List A) (n : ℕ) → length (map f l) ≡ n → length l ≡ n
counted-elements f l n e = sym (length-map l f) ∙ e

module _ {A : Type 0} (f : ℕ → A) where
  pub length-tabulate : (n : ℕ) → length (tabulate f n) ≡ n
  unfolding tabulate
  length-tabulate zero = refl
  length-tabulate (suc n) = length-append (tabulate f n) (f n ∷ []) ∙ rw (length-tabulate n) (omega arith)

  pub get_d_tabulate : (n i : ℕ) (d : A) → i < n → get_or (tabulate f n) i d ≡ f i
  unfolding tabulate
  get_d_tabulate zero i d l = absurd (not-suc-le-zero l)
  get_d_tabulate (suc n) i d l =
      ⊎_elim
      (λ e. subst (λ (j : ℕ). get_or (tabulate f n ++ f n ∷ []) j d ≡ f j) (sym e)
      (get_or_at (tabulate f n) (f n) [] d n (length-tabulate n)))
      (λ m. get_or-append (tabulate f n) (f n ∷ []) d i (rw (length-tabulate n) m) ∙ get_d_tabulate n i d m)
      (eq-or-lt_of_le (le_of_suc-le-suc l))

  -- a list that has f i at each of its n places is the table
  pub tabulated : (n : ℕ) (d : A) (l : List A) → length l ≡ n → ((i : ℕ) → i < n → get_or l i d ≡ f i) → l ≡ tabulate f n
  tabulated n d l e h =
      ext_get_or d l (tabulate f n) (e ∙ sym (length-tabulate n))
      (λ i m. let m' : i < n = rw e at m in h i m' ∙ sym (get_d_tabulate n i d m'))

  -- a loop that fills a list from the front: no store yet, one more, and the end
  pub fill_none : (l : List A) → take 0 l ≡ tabulate f 0
  unfolding tabulate
  fill_none l = refl

  pub fill_more :
      (l : List A) (i : ℕ) → i < length l → take i l ≡ tabulate f i → take (i + 1) (set l i (f i)) ≡ tabulate f (i + 1)
  unfolding tabulate
  fill_more l i h e = rw (add-one, take-suc-set l i (f i) h, e)

  pub fill-all : (l : List A) (n : ℕ) → length l ≡ n → take n l ≡ tabulate f n → l ≡ tabulate f n
  fill-all l n h e = sym (take_all n l (rw h (le_refl n))) ∙ e
