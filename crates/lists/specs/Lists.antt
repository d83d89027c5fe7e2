-- Tests and tables over the places 0 .. n-1, choices among numbers, and lists of bytes.
use Rattle.std.specs.Prelude.{ℕ, zero, suc, ◌<◌, Bool, true, cond, ◌&&◌, List, [], ◌∷◌, ◌++◌, length, get_or}

-- whether a test passes at each place below n
unfoldable pub every : (ℕ → Bool) → ℕ → Bool
every test zero = true
every test (suc n) = every test n && test n

-- the list f 0, f 1, .. f (n-1)
unfoldable pub tabulate {ℓ} : {A : Type ℓ} → (ℕ → A) → ℕ → List A
tabulate f zero = []
tabulate f (suc n) = tabulate f n ++ f n ∷ []

-- of the n numbers from `from` on those that pass a test, in rising order
unfoldable pub chosen : (ℕ → Bool) → ℕ → ℕ → List ℕ
chosen test from zero = []
chosen test from (suc n) = cond (test from) (from ∷ chosen test (suc from) n) (chosen test (suc from) n)

-- Each number of the list is a byte.
abbrev pub Bytes : List ℕ → Type 0
Bytes l = (i : ℕ) → i < length l → get_or l i 0 < 256

-- Each number of the list is above all those before it.
abbrev pub Rising : List ℕ → Type 0
Rising l = (i j : ℕ) → i < j → j < length l → get_or l i 0 < get_or l j 0
