-- Laws of fingerprints behind a common front: what is cut, joined or pushed there is as it is without the front.
-- Assumes nothing.
use Prim.Native.Nat.{ℕ, suc, ◌+◌, ◌-◌, ◌*◌, ◌/◌, ◌%◌, ◌^◌, ◌≤◌, ◌<◌}
use mathlib.Core.Path.{◌≡◌, sym, ◌∙◌, ap}
use native.Mathlib.Nat.{pow-zero, pow-suc, add-mod-mod, mod-add-div}
use native.Mathlib.Omega.{arith}
use lib.Pow.{pow-add}
use Rattle.fingerprint.specs.declared.Key.{Key}
use Rattle.fingerprint.specs.declared.Fingerprint.{Fingerprint}
use Rattle.fingerprint.specs.Fingerprint.{p, Below, empty, value_of, pushed, joined, rest}
use Rattle.fingerprint.proofs.Laws.{by_value}
use Rattle.fingerprint.proofs.Modular.{same-residue, mod-mul, mod-mul-add}

-- cutting a common front off both sides
divided :
    (u v b x y z k l n : ℕ) → x + p * k ≡ u + b → y + p * l ≡ u + v → z + p * n ≡ v → y < p → z < p
    → x + (p - y) + p * (k + n) ≡ b + (p - z) + p * l
divided u v b x y z k l n e f g h i = omega arith

cut_sum : (u v b : ℕ) → ((u + b) % p + (p - (u + v) % p)) % p ≡ (b + (p - v % p)) % p
cut_sum u v b =
    same-residue p ((u + b) % p + (p - (u + v) % p)) (b + (p - v % p)) ((u + b) / p + v / p) ((u + v) / p)
    (divided u v b ((u + b) % p) ((u + v) % p) (v % p) ((u + b) / p) ((u + v) / p) (v / p)
    (mod-add-div (u + b) p) (mod-add-div (u + v) p) (mod-add-div v p) (omega arith) (omega arith))

cut-both : (f a b A R : ℕ) → ((f * (R * A) + b) % p + (p - (f * A + a) % p * R % p)) % p ≡ (b + (p - a * R % p)) % p
cut-both f a b A R =
    ap (λ (x : ℕ). ((f * (R * A) + b) % p + (p - x)) % p) (mod-mul p (f * A + a) R ∙ ap (λ (x : ℕ). x % p) (omega arith))
    ∙ cut_sum (f * (R * A)) (a * R) b

-- joining behind a common front
join-both : (f a g A R : ℕ) → ((f * A + a) % p * R + g) % p ≡ (f * (A * R) + (a * R + g) % p) % p
join-both f a g A R =
    mod-mul-add p (f * A + a) R g ∙ ap (λ (x : ℕ). x % p) (omega arith) ∙ sym (add-mod-mod (f * (A * R)) (a * R + g) p)

module _ (key : Key) (front : Fingerprint) where
  pub rest-behind :
      (a b : Fingerprint) (n l : ℕ) → n ≤ l
      → rest key (joined key front b l) (joined key front a n) (l - n) ≡ rest key b a (l - n)
  rest-behind a b n l h =
      let split : key.r ^ l ≡ key.r ^ (l - n) * key.r ^ n =
      ap (λ (x : ℕ). key.r ^ x) (omega arith) ∙ pow-add key.r (l - n) n in
      by_value _ _ (rw split (cut-both front.value a.value b.value (key.r ^ n) (key.r ^ (l - n))))

  pub joined-behind :
      (a g : Fingerprint) (n l : ℕ) → joined key (joined key front a n) g l ≡ joined key front (joined key a g l) (n + l)
  joined-behind a g n l =
      by_value _ _ (rw (pow-add key.r n l) (join-both front.value a.value g.value (key.r ^ n) (key.r ^ l)))

  pub pushed-behind :
      (a : Fingerprint) (b n : ℕ) → pushed key (joined key front a n) b ≡ joined key front (pushed key a b) (suc n)
  pushed-behind a b n = by_value _ _ (rw pow-suc (join-both front.value a.value (value_of b) (key.r ^ n) key.r))

-- no bytes behind no bytes
pub joined-none : (key : Key) (n : ℕ) → joined key empty empty n ≡ empty
joined-none key n = by_value _ _ (omega arith)

-- no bytes behind some
pub joined-nothing : (key : Key) (f : Fingerprint) → Below f → joined key f empty 0 ≡ f
joined-nothing key f q = by_value _ _ (rw pow-zero (omega (arith, q.below)))
