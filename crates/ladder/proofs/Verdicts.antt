-- Two ladders whose tests give the same verdicts on the blocks of a history have the same stages and give the same answers in it.
-- Assumes nothing.
use Prim.Native.Nat.{ℕ, zero, suc, ◌+◌, ◌-◌, ◌≤◌, ◌<◌}
use mathlib.Core.Path.{◌≡◌, refl, subst, ◌∙◌, ap}
use mathlib.Core.Logic.{inl, inr}
use mathlib.Core.Bool.{Bool, true, false, cond, ◌&&◌, and-eq-true_iff}
use mathlib.Core.List.{List, [], ◌∷◌}
use mathlib.Core.Option.{none}
use native.Mathlib.Omega.{arith}
use lib.ListN.{length, take}
use lib.Seq.{length-take-le}
use lib.Dec.{leb, eqb}
use borrow.Author.Tests.{eqb-true, leb-true}
use Rattle.ladder.specs.Prefix.{block, levels, prefix_length}
use Rattle.ladder.specs.Ladder.{
  Tests,
  Stages,
  Walk,
  lists,
  put,
  without,
  last_of,
  counted,
  ringing,
  ripe,
  continues,
  enter,
  entering,
  promote,
  compare,
  visit,
  descend,
  step,
  after,
  answer_at,
}
use Rattle.ladder.proofs.Starts.{Has, has_last}
use Rattle.ladder.proofs.Blocks.{block-take}
use Rattle.ladder.proofs.Enter.{enter-from}

-- Verdicts that agree on the blocks that lie inside the history h.
pub record SameVerdicts (f g : Tests) (h : List ℕ) : Type 0 where
  pub size : f.length ≡ g.length
  pub matches :
      (i s : ℕ)
      → i ≤ levels f.length
      → s + prefix_length f.length i ≤ length h
      → f.matches i (block h s (prefix_length f.length i)) ≡ g.matches i (block h s (prefix_length f.length i))
  pub alike :
      (s u n : ℕ)
      → s + n ≤ length h
      → u + n ≤ length h
      → f.alike (block h s n) (block h u n) ≡ g.alike (block h s n) (block h u n)

-- All starts lie in the history: at n or before.
abbrev Within : ℕ → List ℕ → Type 0
Within n xs = (s : ℕ) → Has xs s → s ≤ n

abbrev Low : ℕ → Stages → Type 0
Low n stages = (i : ℕ) → Within n (stages i)

has-without : (xs : List ℕ) (s x : ℕ) → Has (without xs s) x → Has xs x
unfolding without
has-without [] s x q = q
has-without (y ∷ ys) s x q = go (eqb y s) (has-without ys s x) q
  where
    go : (b : Bool) → (Has (without ys s) x → Has ys x) → Has (cond b (without ys s) (y ∷ without ys s)) x → Has (y ∷ ys) x
    go true tail r = inr (tail r)
    go false tail (inl e) = inl e
    go false tail (inr r) = inr (tail r)

put_low : (n : ℕ) (stages : Stages) (i : ℕ) (xs : List ℕ) → Low n stages → Within n xs → Low n (put stages i xs)
put_low n stages i xs low within j = go (eqb j i)
  where
    go : (b : Bool) → Within n (cond b xs (stages j))
    go true = within
    go false = low j

-- the walk with the start s of stage i taken off
abbrev off : ℕ → ℕ → Walk → Walk
off i s w = record { stages = put w.stages i (without (w.stages i) s); answer = w.answer }

off-low : (n i s : ℕ) (w : Walk) → Low n w.stages → Low n (off i s w).stages
off-low n i s w low = put_low n w.stages i _ low (λ x q. low i x (has-without (w.stages i) s x q))

-- A byte leaves all starts in the history.
module _ (f : Tests) (h : List ℕ) where
  enter-within : (xs : List ℕ) (new : ℕ) → Within (length h) xs → new ≤ length h → Within (length h) (enter f h xs new).listed
  enter-within xs new within l s q = elim (enter-from f h xs new s q) [ inl r ↦ within s r | inr e ↦ omega arith ]

  compare-low : (i s : ℕ) (w : Walk) → Low (length h) w.stages → s ≤ length h → Low (length h) (compare f h i s w).stages
  unfolding compare promote
  compare-low i s w low l = go (f.matches i (block h s (prefix_length f.length i))) (eqb i (levels f.length))
    where
      go :
          (b e : Bool)
          → Low (length h) (cond b (cond e (ringing s (counted w)) (entering f h i s (counted w))) (counted w)).stages
      go true true = low
      go true false = put_low (length h) w.stages i _ low (enter-within (w.stages i) s (low i) l)
      go false e = low

  visit-low : (i : ℕ) (w : Walk) → Low (length h) w.stages → Low (length h) (visit f h i w).stages
  unfolding visit
  visit-low i w low = go (ripe h n (w.stages i))
    where
      n : ℕ
      n = prefix_length f.length (suc i)

      go : (b : Bool) → Low (length h) (cond b (compare f h (suc i) (length h - n) (off i (length h - n) w)) w).stages
      go true = compare-low (suc i) (length h - n) _ (off-low (length h) i (length h - n) w low) (omega arith)
      go false = low

  descend-low : (i : ℕ) (w : Walk) → Low (length h) w.stages → Low (length h) (descend f h i w).stages
  unfolding descend
  descend-low zero w low = low
  descend-low (suc i) w low = descend-low i (visit f h i w) (visit-low i w low)

  step-low : (stages : Stages) → Low (length h) stages → Low (length h) (step f h stages).stages
  unfolding step
  step-low stages low = compare-low 0 (length h - 1) _ (descend-low (levels f.length) _ low) (omega arith)

-- Whatever one ladder does at a byte, the other does.
module _ (f g : Tests) (h : List ℕ) (v : SameVerdicts f g h) where
  continues-same :
      (x y last new : ℕ)
      → x ≤ length h
      → y ≤ length h
      → last ≤ length h
      → new ≤ length h
      → continues f h x y last new ≡ continues g h x y last new
  continues-same x y last new a b c d = go (eqb (new - last) (y - x)) refl
    where
      go :
          (e : Bool)
          → eqb (new - last) (y - x) ≡ e
          → e && f.alike (block h last (new - last)) (block h x (y - x))
          ≡ e && g.alike (block h last (new - last)) (block h x (y - x))
      go true e =
          let same : new - last ≡ y - x = eqb-true (new - last) (y - x) e in
          rw same (v.alike last x (y - x) (omega arith) (omega arith))
      go false e = refl

  enter-same : (xs : List ℕ) (new : ℕ) → Within (length h) xs → new ≤ length h → enter f h xs new ≡ enter g h xs new
  unfolding enter
  enter-same [] new within l = refl
  enter-same (x ∷ []) new within l = refl
  enter-same (x ∷ y ∷ more) new within l =
      rw
      (continues-same x y (last_of y more) new (within x (inl refl)) (within y (inr (inl refl)))
      (within _ (inr (has_last y more))) l)

  promote-same : (i s : ℕ) (w : Walk) → Low (length h) w.stages → s ≤ length h → promote f h i s w ≡ promote g h i s w
  unfolding promote
  promote-same i s w low l = rw (enter-same (w.stages i) s (low i) l, v.size)

  compare_same :
      (i s : ℕ) (w : Walk)
      → i ≤ levels f.length
      → s + prefix_length f.length i ≤ length h
      → Low (length h) w.stages
      → compare f h i s w ≡ compare g h i s w
  unfolding compare
  compare_same i s w k l low = rw (v.matches i s k l, promote-same i s (counted w) low (omega arith), v.size)

  visit-same :
      (i : ℕ) (w : Walk) → i < levels f.length → Low (length h) w.stages → visit f h i w ≡ visit g h i w
  unfolding visit
  visit-same i w k low = go (ripe h n (w.stages i)) refl ∙ ap with-length v.size
    where
      n : ℕ
      n = prefix_length f.length (suc i)

      s : ℕ
      s = length h - n

      -- the other ladder's visit, for a pattern of m bytes
      with-length : ℕ → Walk
      with-length m =
          let u : ℕ = length h - prefix_length m (suc i) in
          cond (ripe h (prefix_length m (suc i)) (w.stages i)) (compare g h (suc i) u (off i u w)) w

      go :
          (b : Bool)
          → ripe h n (w.stages i) ≡ b
          → cond b (compare f h (suc i) s (off i s w)) w ≡ cond b (compare g h (suc i) s (off i s w)) w
      go true e =
          let (l, listed) = (and-eq-true_iff (leb n (length h)) (lists (w.stages i) s)).0 e in
          compare_same (suc i) s _ k (omega (arith, leb-true n (length h) l)) (off-low (length h) i s w low)
      go false e = refl

  descend-same :
      (i : ℕ) (w : Walk) → i ≤ levels f.length → Low (length h) w.stages → descend f h i w ≡ descend g h i w
  unfolding descend
  descend-same zero w k low = refl
  descend-same (suc i) w k low =
      descend-same i (visit f h i w) (omega arith) (visit-low f h i w low)
      ∙ ap (descend g h i) (visit-same i w k low)

  step_same : 1 ≤ length h → (stages : Stages) → Low (length h) stages → step f h stages ≡ step g h stages
  unfolding step
  step_same some stages low =
      let begin : Walk = record { stages = stages; answer = record { ring = none; aside = []; comparisons = 0 } } in
      compare_same 0 (length h - 1) _ (omega arith) (omega arith) (descend-low f h (levels f.length) begin low)
      ∙ rw (descend-same (levels f.length) begin (omega arith) low, v.size)

-- Inside a history's beginning the verdicts agree too.
verdicts-front : (f g : Tests) (h : List ℕ) (n : ℕ) → n ≤ length h → SameVerdicts f g h → SameVerdicts f g (take n h)
verdicts-front f g h n l v =
    let size : length (take n h) ≡ n = length-take-le n h l in
    record {
      size = v.size;
      matches =
          λ i s k b. rw (block-take n s (prefix_length f.length i) h (omega arith)) (v.matches i s k (omega arith));
      alike =
          λ s u d a b.
          rw (block-take n s d h (omega arith), block-take n u d h (omega arith)) (v.alike s u d (omega arith) (omega arith));
    }

-- Two ladders with the same verdicts inside a history: after each of its bytes their stages are the same, and so are their answers.
module _ (f g : Tests) (h : List ℕ) (v : SameVerdicts f g h) where
  after-low : (t : ℕ) → t ≤ length h → Low t (after f h t)
  unfolding after
  after-low zero l = λ i s q. absurd q
  after-low (suc t) l =
      let size : length (take (suc t) h) ≡ suc t = length-take-le (suc t) h l in
      subst (λ n. Low n (step f (take (suc t) h) (after f h t)).stages) size
      (step-low f (take (suc t) h) (after f h t) (λ i s q. omega (arith, after-low t (omega arith) i s q)))

  byte-same : (t : ℕ) → t < length h → step f (take (suc t) h) (after f h t) ≡ step g (take (suc t) h) (after f h t)
  byte-same t l =
      let size : length (take (suc t) h) ≡ suc t = length-take-le (suc t) h l in
      step_same f g (take (suc t) h) (verdicts-front f g h (suc t) l v) (omega arith) (after f h t)
      (λ i s q. omega (arith, after-low t (omega arith) i s q))

  pub after_same : (t : ℕ) → t ≤ length h → after f h t ≡ after g h t
  unfolding after
  after_same zero l = refl
  after_same (suc t) l =
      ap (λ (w : Walk). w.stages) (byte-same t l)
      ∙ ap (λ (s : Stages). (step g (take (suc t) h) s).stages) (after_same t (omega arith))

  pub answer-same : (t : ℕ) → t ≤ length h → answer_at f h t ≡ answer_at g h t
  unfolding answer_at
  answer-same zero l = refl
  answer-same (suc t) l =
      ap (λ (w : Walk). w.answer) (byte-same t l)
      ∙ ap (λ (s : Stages). (step g (take (suc t) h) s).answer) (after_same t (omega arith))
