-- `signature::store` meets its contract: the places that were passed hold what they are to hold, the others what they held.
use Prim.Native.Nat.{ℕ, ◌+◌, ◌≤◌, ◌<◌}
use mathlib.Core.Path.{◌≡◌, refl, sym, ◌∙◌}
use Rattle.std.proofs.Common.{◌≢◌, List, length, set, get_or, length-set, get_or-set_other, get_or-set_same, below_more}
use Rattle.fingerprint.specs.declared.Fingerprint.{Fingerprint}
use Rattle.fingerprint.specs.Fingerprint.{empty}
use Rattle.lists.proofs.Laws.{tabulated}
use Rattle.signature.specs.Signature.{stored_at, stored}
use native.Mathlib.Omega.{arith}
use Rattle.signature.proofs.store.Goals as goal
use Rattle.signature.proofs.store.Goals.{then-completes, else-completes}

-- one place more: each place below i holds what it is to hold, and so does i after the store
passed :
    (f : ℕ → Fingerprint) (l : List Fingerprint) (i : ℕ) (x : Fingerprint)
    → i < length l
    → ((k : ℕ) → k < i → get_or l k empty ≡ f k)
    → x ≡ f i
    → (k : ℕ)
    → k < i + 1
    → get_or (set l i x) k empty ≡ f k
passed f l i x lt below here =
    below_more _ _ (λ k h. let ne : k ≢ i = omega arith in rw get_or-set_other (below k h)) (rw get_or-set_same here)

-- the places from i + 1 on are as they were
kept :
    (f : ℕ → Fingerprint) (l : List Fingerprint) (i : ℕ) (x : Fingerprint)
    → ((k : ℕ) → i ≤ k → get_or l k empty ≡ f k)
    → (k : ℕ)
    → i + 1 ≤ k
    → get_or (set l i x) k empty ≡ f k
kept f l i x above k h = let ne : k ≢ i = omega arith in rw get_or-set_other (above k (omega arith))

pub loop-i-preserved : goal.loop-i-preserved
loop-i-preserved c =
    let a = c.args in
    let i = c.loop-i.i in
    let l = c.loop-i.prints in
    let before = c.loop-i.invariant in
    let lt : i < length l = omega (arith, before.long) in
    elim c.if-completes.branch [
      | then-completes w ↦
          rw w.place-is
          (record {
            long = length-set l i a.print ∙ before.long;
            stored = passed _ l i _ lt before.stored (rw (sym c.completes.ensures ∙ w.if-completes.true) refl);
            others = kept _ l i _ before.others;
          })
      | else-completes w ↦
          rw w.place-is
          (record {
            long = length-set l i _ ∙ before.long;
            stored =
                passed _ l i _ lt before.stored
                (before.others i (omega arith) ∙ rw (sym c.completes.ensures ∙ w.if-completes.false) refl);
            others = kept _ l i _ before.others;
          })
    ]

pub returns : goal.returns
unfolding stored
returns c =
    let a = c.args in
    let end : c.loop-i.i ≡ 21 = omega arith in
    tabulated (stored_at a.m a.n a.print a.prints.now) 21 empty _ c.loop-i.invariant.long (rw end at c.loop-i.invariant.stored)
