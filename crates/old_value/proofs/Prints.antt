-- The old and the new fingerprint of a block are apart by a number that the block's length alone fixes; so blocks of one length agree under
-- one value just where they agree under the other.
-- Assumes nothing.
use Prim.Native.Nat.{ℕ, zero, suc, ◌+◌, ◌*◌, ◌%◌, ◌<◌}
use mathlib.Core.Path.{◌≡◌, refl, sym, ◌∙◌, ap}
use mathlib.Core.List.{List, [], ◌∷◌}
use native.Mathlib.Decide.{ℕ_discrete}
use native.Mathlib.Omega.{arith}
use lib.Dec.{eqb}
use lib.ListN.{length}
use borrow.Author.Tests.{eq-eqb, ne_eqb}
use Rattle.fingerprint.specs.declared.Key.{Key}
use Rattle.fingerprint.specs.Fingerprint.{p, same, extended, agree_under, key_number, print_number, numbered_print, value_of}
use Rattle.fingerprint.proofs.Modular.{mod-mul-add}
use Rattle.old_value.specs.OldValue.{old_from, old_print, agreed_under}

-- how far the two are apart once n bytes are taken on, from c on: each byte's value is one higher
apart : ℕ → ℕ → ℕ → ℕ
apart r c zero = c
apart r c (suc n) = apart r (c * r + 1) n

one_more : (f c r b : ℕ) → ((f + c) % p * r + value_of b) % p ≡ ((f * r + b) % p + (c * r + 1)) % p
one_more f c r b = mod-mul-add p (f + c) r (value_of b) ∙ ap (λ (x : ℕ). x % p) (omega arith) ∙ later (f * r + b) (c * r + 1)
  where
    later : (x y : ℕ) → (x + y) % p ≡ (x % p + y) % p
    later x y = omega arith

both :
    (key : Key) (f c : ℕ) (bytes : List ℕ)
    → print_number (extended key (numbered_print ((f + c) % p)) bytes)
    ≡ (old_from (key_number key) f bytes + apart (key_number key) c (length bytes)) % p
unfolding extended old_from apart
both key f c [] = refl
both key f c (b ∷ bytes) =
    let r : ℕ = key_number key in
    ap (λ (x : ℕ). print_number (extended key (numbered_print x) bytes)) (one_more f c r b)
    ∙ both key ((f * r + b) % p) (c * r + 1) bytes

old_below : (r f : ℕ) (bytes : List ℕ) → f < p → old_from r f bytes < p
unfolding old_from
old_below r f [] l = l
old_below r f (b ∷ bytes) l = old_below r ((f * r + b) % p) bytes (omega arith)

-- what is added to two numbers below p makes no difference to whether they are equal
same-shift : (a b c : ℕ) → a < p → b < p → eqb a b ≡ eqb ((a + c) % p) ((b + c) % p)
same-shift a b c l m =
    elim (ℕ_discrete a b) [
      | yes e ↦ rw (eq-eqb a b e, eq-eqb ((a + c) % p) ((b + c) % p) (ap (λ (x : ℕ). (x + c) % p) e))
      | no n ↦ rw (ne_eqb a b n, ne_eqb ((a + c) % p) ((b + c) % p) (λ e. n (omega arith)))
    ]

pub same-verdict : (key : Key) (u v : List ℕ) → length u ≡ length v → agreed_under key u v ≡ agree_under key u v
unfolding same
same-verdict key u v e =
    let r : ℕ = key_number key in
    same-shift (old_print key u) (old_print key v) (apart r 0 (length u)) (old_below _ 0 u (omega arith)) (old_below _ 0 v (omega arith))
    ∙ rw (sym (both key 0 0 u), ap (λ (n : ℕ). (old_print key v + apart r 0 n) % p) e, sym (both key 0 0 v))
