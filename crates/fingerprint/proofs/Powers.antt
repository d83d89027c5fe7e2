-- Powers modulo p: the product of two; and what each turn of `Key::power` keeps, which halves the exponent and squares the base.
-- Assumes nothing.
use Prim.Native.Nat.{ℕ, zero, suc, ◌+◌, ◌*◌, ◌/◌, ◌%◌, ◌^◌, ◌≤◌, ◌<◌}
use mathlib.Core.Path.{◌≡◌, sym, ◌∙◌, ap}
use native.Mathlib.Nat.{pow-zero, pow-suc}
use native.Mathlib.Omega.{arith}
use lib.Pow.{pow-add}
use Rattle.fingerprint.specs.declared.Power.{Power}
use Rattle.fingerprint.specs.Fingerprint.{p, multiplied, squared}
use Rattle.fingerprint.proofs.Modular.{mul-mod, mod-mul, mul-mod-right-factor}

-- the residue of a product of residues of powers
pub power-product : (r m n : ℕ) → r ^ m % p * (r ^ n % p) % p ≡ r ^ (m + n) % p
power-product r m n = mul-mod p (r ^ m) (r ^ n) ∙ ap (λ (x : ℕ). x % p) (sym (pow-add r m n))

-- a power of a residue, and of a square
power-of-residue : (b n : ℕ) → (b % p) ^ n % p ≡ b ^ n % p
power-of-residue b zero = simp pow-zero
power-of-residue b (suc n) =
    ap (λ (x : ℕ). x % p) (pow-suc (b % p) n)
    ∙ sym (mod-mul p ((b % p) ^ n) (b % p))
    ∙ ap (λ (x : ℕ). x * (b % p) % p) (power-of-residue b n)
    ∙ mul-mod p (b ^ n) b
    ∙ ap (λ (x : ℕ). x % p) (sym (pow-suc b n))

power-of-square : (b h : ℕ) → (b * b) ^ h ≡ b ^ (h + h)
power-of-square b zero = simp pow-zero
power-of-square b (suc h) =
    rw (pow-add b (suc h) (suc h), pow-suc b h, pow-suc (b * b) h, power-of-square b h, pow-add b h h) (omega arith)

-- What each turn keeps: the product so far times the base to the exponent left is r to the n.
pub record Halving (r n : ℕ) (product base : Power) (left : ℕ) : Type 0 where
  pub wanted : product.value * base.value ^ left % p ≡ r ^ n % p
  pub some : 0 < left

pub halving-begin : (r n : ℕ) → 0 < n → Halving r n (record { value = 1 }) (record { value = 1 * r % p }) n
halving-begin r n some =
    let once : (x : ℕ) → 1 * x ≡ x = λ x. omega arith in
    record {
      wanted = ap (λ (x : ℕ). x % p) (once _) ∙ power-of-residue (1 * r) n ∙ ap (λ (x : ℕ). x ^ n % p) (once r);
      some = some;
    }

module _ {r n left : ℕ} {product base : Power} (q : Halving r n product base left) where
  -- the square to the half of the exponent is the base to twice the half
  by-square : (a : ℕ) → a * (squared base).value ^ (left / 2) % p ≡ a * base.value ^ (left / 2 + left / 2) % p
  by-square a =
      let h = left / 2 in
      let b = base.value in
      sym (mul-mod-right-factor p a ((squared base).value ^ h))
      ∙ ap (λ (x : ℕ). a * x % p) (power-of-residue (b * b) h ∙ ap (λ (x : ℕ). x % p) (power-of-square b h))
      ∙ mul-mod-right-factor p a (b ^ (h + h))

  pub halving-even : 1 < left → (left % 2 ≡ 1 → ⊥) → Halving r n product (squared base) (left / 2)
  halving-even more even =
      let halves : left / 2 + left / 2 ≡ left = omega arith in
      record {
        wanted = by-square product.value ∙ ap (λ (k : ℕ). product.value * base.value ^ k % p) halves ∙ q.wanted;
        some = omega arith;
      }

  pub halving-odd : 1 < left → left % 2 ≡ 1 → Halving r n (multiplied product base) (squared base) (left / 2)
  halving-odd more odd =
      let b = base.value in
      let twice = left / 2 + left / 2 in
      let halves : suc twice ≡ left = omega arith in
      let one_more : b ^ twice * b ≡ b ^ left = sym (pow-suc b twice) ∙ ap (λ (k : ℕ). b ^ k) halves in
      record {
        wanted =
            by-square (product.value * b % p)
            ∙ mod-mul p (product.value * b) (b ^ twice)
            ∙ ap (λ (x : ℕ). x % p) (omega (arith, ap (λ (x : ℕ). product.value * x) one_more))
            ∙ q.wanted;
        some = omega arith;
      }

  pub halving-end : left ≤ 1 → product.value * base.value % p ≡ r ^ n % p
  halving-end last =
      let one : 1 ≡ left = omega (arith, q.some) in
      let itself : base.value ≡ base.value ^ left =
      sym (rw (pow-suc, pow-zero) (omega arith)) ∙ ap (λ (k : ℕ). base.value ^ k) one in
      ap (λ (x : ℕ). product.value * x % p) itself ∙ q.wanted
