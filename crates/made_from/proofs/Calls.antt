-- The maker's calls: what an accepted one tells, and when each is accepted.
use Prim.Native.Nat.{ℕ, suc, ◌≤◌, ◌<◌}
use mathlib.Core.Path.{◌≡◌, refl}
use mathlib.Core.Bool.{Bool, true, false, cond}
use native.Mathlib.Omega.{arith}
use lib.Dec.{ltb, leb, eqb}
use borrow.Author.Tests.{leb-true, le-leb, ltb-true, ltb-false, lt-ltb, le-ltb, eqb-false, ne_eqb}
use Rattle.lists.proofs.Laws.{and_left, and_right, and_both}
use Rattle.fingerprint.specs.declared.Key.{Key}
use Rattle.fingerprint.specs.Fingerprint.{key_fits}
use Rattle.signature.specs.declared.Builder.{Builder}
use Rattle.signature.specs.Signature.{max_length, length_fits, builder_fits}
use Rattle.signature.specs.Calls.{begin_refusal, push_refusal, one_more, after_push, finish_refusal, finished}

-- a choice that comes to 0 was not the one with a refusal's number
not_first : (t : Bool) (x y : ℕ) → cond t (suc x) y ≡ 0 → (t ≡ false) × (y ≡ 0)
not_first true x y e = absurd (omega arith)
not_first false x y e = (refl, e)

not-second : (t : Bool) (x y : ℕ) → cond t x (suc y) ≡ 0 → (t ≡ true) × (x ≡ 0)
not-second true x y e = (refl, e)
not-second false x y e = absurd (omega arith)

pub length-limits : (m : ℕ) → length_fits m ≡ true → (1 ≤ m) × (m ≤ max_length)
length-limits m h =
    (leb-true 1 m (and_left (leb 1 m) (leb m max_length) h), leb-true m max_length (and_right (leb 1 m) (leb m max_length) h))

pub length-fits : (m : ℕ) → 1 ≤ m → m ≤ max_length → length_fits m ≡ true
length-fits m a b = and_both (le-leb 1 m a) (le-leb m max_length b)

-- begin
pub begin-tells : (m : ℕ) (key : Key) → begin_refusal m key ≡ 0 → (length_fits m ≡ true) × (key_fits key ≡ true)
begin-tells m key e =
    let a = not_first (eqb m 0) 0 _ e in
    let b = not_first (ltb max_length m) 1 _ a.1 in
    let c = not-second (key_fits key) 0 2 b.1 in
    (length-fits m (omega (arith, eqb-false m 0 a.0)) (ltb-false max_length m b.0), c.0)

pub begin-accepted : (m : ℕ) (key : Key) → length_fits m ≡ true → key_fits key ≡ true → begin_refusal m key ≡ 0
begin-accepted m key h k =
    let l = length-limits m h in
    rw (ne_eqb m 0 (omega arith), le-ltb max_length m l.1, k)

-- a passage byte
pub push-tells : (b : Builder) → push_refusal b ≡ 0 → b.taken < b.length
push-tells b e =
    let a = not-second (builder_fits b) _ 9 e in
    ltb-true b.taken b.length (not-second (ltb b.taken b.length) 0 4 a.1).0

pub push-accepted : (b : Builder) → builder_fits b ≡ true → b.taken < b.length → push_refusal b ≡ 0
push-accepted b h l = rw (h, lt-ltb b.taken b.length l)

pub push-takes : (b : Builder) (byte : ℕ) → push_refusal b ≡ 0 → after_push b byte ≡ one_more b byte
unfolding after_push
push-takes b byte e = rw e

-- a refused byte leaves the half-made card as it was
pub push-leaves : (b : Builder) (byte : ℕ) → (push_refusal b ≡ 0 → ⊥) → after_push b byte ≡ b
unfolding after_push
push-leaves b byte n = rw (ne_eqb (push_refusal b) 0 n)

-- the card
pub finish-accepted : (b : Builder) → builder_fits b ≡ true → b.length ≤ b.taken → finish_refusal b ≡ 0
finish-accepted b h l = rw (h, le-ltb b.taken b.length l)

pub finish-gives :
    (b : Builder)
    → finish_refusal b ≡ 0
    → finished b ≡ record { length = b.length; key = b.key; prints = b.prints }
unfolding finished
finish-gives b e = rw e
