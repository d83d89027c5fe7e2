-- Residues: numbers that differ by multiples of m have one residue, so an inner `% m` may be left out; and bounds of products.
-- Assumes nothing.
use Prim.Native.Nat.{ℕ, ◌+◌, ◌*◌, ◌/◌, ◌%◌, ◌≤◌}
use mathlib.Core.Path.{◌≡◌, sym, ◌∙◌, ap}
use native.Mathlib.Nat.{add-mul-mod_self_left, mod-add-div, mul-le-mul}
use native.Mathlib.Omega.{arith}

pub same-residue : (m a b k l : ℕ) → a + m * k ≡ b + m * l → a % m ≡ b % m
same-residue m a b k l e =
    sym (add-mul-mod_self_left a m k) ∙ ap (λ (x : ℕ). x % m) e ∙ add-mul-mod_self_left b m l

-- the inner residue of a factor, and of both
pub mod-mul-add : (m a b c : ℕ) → (a % m * b + c) % m ≡ (a * b + c) % m
mod-mul-add m a b c =
    same-residue m (a % m * b + c) (a * b + c) (a / m * b) 0
    (omega (arith, ap (λ (x : ℕ). x * b) (mod-add-div a m)))

pub mul-mod-add : (m a b c : ℕ) → (a * (b % m) + c) % m ≡ (a * b + c) % m
mul-mod-add m a b c =
    same-residue m (a * (b % m) + c) (a * b + c) (a * (b / m)) 0
    (omega (arith, ap (λ (x : ℕ). a * x) (mod-add-div b m)))

pub mul-mod : (m a b : ℕ) → a % m * (b % m) % m ≡ a * b % m
mul-mod m a b =
    same-residue m (a % m * (b % m)) (a * b) (a / m * b + a % m * (b / m)) 0
    (omega (arith, ap (λ (x : ℕ). x * b) (mod-add-div a m), ap (λ (x : ℕ). a % m * x) (mod-add-div b m)))

pub mod-mul : (m a b : ℕ) → a % m * b % m ≡ a * b % m
mod-mul m a b =
    same-residue m (a % m * b) (a * b) (a / m * b) 0 (omega (arith, ap (λ (x : ℕ). x * b) (mod-add-div a m)))

pub mul-mod-right-factor : (m a b : ℕ) → a * (b % m) % m ≡ a * b % m
mul-mod-right-factor m a b =
    same-residue m (a * (b % m)) (a * b) (a * (b / m)) 0 (omega (arith, ap (λ (x : ℕ). a * x) (mod-add-div b m)))

-- The product of two 32-bit numbers leaves room for a third in 64 bits.
pub product_wide : {a b : ℕ} → a ≤ 4294967295 → b ≤ 4294967295 → a * b ≤ 18446744065119617025
product_wide ha hb = mul-le-mul ha hb
