-- What it says of a value and of a record's head that a call accepts them: each of its tests passed.
-- Assumes nothing.
use Prim.Native.Nat.{ℕ, ◌+◌, ◌≤◌}
use mathlib.Core.Path.{◌≡◌, refl}
use mathlib.Core.Bool.{Bool, true, false, cond}
use mathlib.Core.List.{List}
use native.Mathlib.Omega.{arith}
use lib.Dec.{eqb, ltb}
use lib.ListN.{length}
use borrow.Author.Tests.{eqb-true, eqb-false, ltb-false}
use Rattle.lists.proofs.Cases.{by-test}
use Rattle.record.specs.Layout.{length_width, length_field, kind_of}
use Rattle.record.specs.Calls.{before, put_refusal, head_refusal}

-- a test that is to pass, one that is to fail, and one refusal before another: where none is given
pub passed : (b : Bool) (n : ℕ) {x : ℕ} → (n ≡ 0 → ⊥) → cond b x n ≡ 0 → (b ≡ true) × (x ≡ 0)
passed true n h e = (refl, e)
passed false n h e = absurd (h e)

failed : (b : Bool) (n : ℕ) {x : ℕ} → (n ≡ 0 → ⊥) → cond b n x ≡ 0 → (b ≡ false) × (x ≡ 0)
failed true n h e = absurd (h e)
failed false n h e = (refl, e)

pub neither : (a : ℕ) {b : ℕ} → before a b ≡ 0 → (a ≡ 0) × (b ≡ 0)
neither a e = by-test (eqb a 0) (λ z. (eqb-true a 0 z, rw z at e)) (λ z. absurd (eqb-false a 0 z (rw z at e)))

-- What was judged can be written, and there is room for it.
pub put-passed : (judged : ℕ) (bytes entry : List ℕ) → put_refusal judged bytes entry ≡ 0 → (judged ≡ 0) × (length bytes ≤ length entry)
put-passed judged bytes entry e =
    let q = neither judged e in
    (q.0, ltb-false _ _ (failed (ltb (length entry) (length bytes)) 7 (λ z. omega arith) q.1).0)

pub head_passed : (kind least : ℕ) (s : List ℕ) → head_refusal kind least s ≡ 0 → (length_field s + length_width ≤ length s) × (kind_of s ≡ kind)
unfolding head_refusal
head_passed kind least s e =
    let a = failed (ltb (length s) length_width) 8 (λ z. omega arith) e in
    let b = failed (ltb (length s) (length_field s + length_width)) 8 (λ z. omega arith) a.1 in
    let d = failed (ltb (length_field s) 2) 10 (λ z. omega arith) b.1 in
    (ltb-false _ _ b.0, eqb-true _ _ (passed (eqb (kind_of s) kind) 9 (λ z. omega arith) d.1).0)
