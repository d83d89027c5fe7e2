-- One byte upon stages that are in order: what is left of a stage at its visit, what comes to it, and that the stages stay in order.
use Prim.Native.Nat.{ℕ, zero, suc, ◌+◌, ◌≤◌, ◌<◌}
use mathlib.Core.Path.{◌≡◌, refl, sym, subst, ◌∙◌}
use mathlib.Core.Logic.{◌⊎◌, inl, inr}
use mathlib.Core.Bool.{Bool, true, false, not, and-eq-true_iff, true≢false}
use mathlib.Core.List.{List, [], ◌∷◌}
use native.Mathlib.Decide.{ℕ_discrete, dec_le}
use native.Mathlib.Omega.{arith}
use lib.ListN.{length}
use lib.Dec.{leb, eqb}
use borrow.Author.Tests.{le-leb, leb-true, eqb-false, not-true}
use Rattle.ladder.specs.Ladder.{Entered, lists, ripe}
use Rattle.ladder.proofs.Levels.{length-rises}
use Rattle.ladder.proofs.Starts.{Has, Ascending, has-lists, lists-has, without-first, nothing-in}
use Rattle.ladder.proofs.Enter.{enter-from, enter-ascending}
use Rattle.ladder.proofs.Byte.{Byte, top, size, due, tested, agrees, matched, rest, enters, joins, entered}
use Rattle.ladder.proofs.Step.{untested}
use Rattle.ladder.proofs.Aged.{Staged, first-is, unripe}

-- A byte that comes after t others, upon stages that are in order.
pub record Met (c : Byte) (t : ℕ) : Type 0 where
  pub now : length c.history ≡ suc t
  pub ok : Staged c.tests.length t c.stages

module _ {c : Byte} {t : ℕ} (w : Met c t) where
  -- Stage i has no ripe start, and is kept.
  pub record Kept (i : ℕ) : Type 0 where
    pub idle : tested c (suc i) ≡ false
    pub same : rest c i ≡ c.stages i

  -- The first start of stage i is ripe, and is taken off.
  pub record Taken (i : ℕ) : Type 0 where
    pub ready : tested c (suc i) ≡ true
    pub tail : List ℕ
    pub shape : c.stages i ≡ due c (suc i) ∷ tail
    pub left : rest c i ≡ tail

  -- A start is tried above stage i exactly if the stage lists the one due.
  pub tested-due : (i : ℕ) → tested c (suc i) ≡ true → (size c (suc i) ≤ suc t) × Has (c.stages i) (due c (suc i))
  unfolding tested
  tested-due i e =
      let both : (leb (size c (suc i)) (length c.history) ≡ true) × (lists (c.stages i) (due c (suc i)) ≡ true) =
      (and-eq-true_iff (leb (size c (suc i)) (length c.history)) _).0 e in
      (omega (arith, leb-true), lists-has (c.stages i) (due c (suc i)) both.1)

  pub due-tested : (i s : ℕ) → Has (c.stages i) s → s + size c (suc i) ≡ suc t → tested c (suc i) ≡ true
  unfolding tested
  due-tested i s q e =
      rw (le-leb (size c (suc i)) (length c.history) (omega arith))
      (has-lists (c.stages i) (due c (suc i)) (subst (Has (c.stages i)) (omega arith) q))

  take-off : (i : ℕ) (ys : List ℕ) → tested c (suc i) ≡ true → c.stages i ≡ due c (suc i) ∷ ys → Taken i
  take-off i ys e f =
      let up : Ascending (due c (suc i) ∷ ys) = subst Ascending f (w.ok.aged i).ascends in
      record { ready = e; tail = ys; shape = f; left = rw (e, f) (without-first (due c (suc i)) ys up.0) }

  pub rest-view : (i : ℕ) → Kept i ⊎ Taken i
  rest-view i = go (tested c (suc i)) refl
    where
      go : (b : Bool) → tested c (suc i) ≡ b → Kept i ⊎ Taken i
      go false e = inl (record { idle = e; same = rw e })
      go true e =
          let q : (size c (suc i) ≤ suc t) × Has (c.stages i) (due c (suc i)) = tested-due i e in
          let f : (ys : List ℕ) × (c.stages i ≡ due c (suc i) ∷ ys) =
          first-is (c.stages i) (due c (suc i)) (w.ok.aged i).ascends
          (λ y r. omega (arith, (w.ok.aged i).young y r)) q.1
          in
          inr (take-off i f.0 e f.1)

  -- What is left is what was listed and is not ripe.
  pub rest_has : (i s : ℕ) → Has (rest c i) s → Has (c.stages i) s × (suc t < s + size c (suc i))
  rest_has i s q = go (rest-view i)
    where
      go : Kept i ⊎ Taken i → Has (c.stages i) s × (suc t < s + size c (suc i))
      go (inl k) =
          let r : Has (c.stages i) s = rw k.same at q in
          elim (ℕ_discrete (s + size c (suc i)) (suc t)) [
            | yes e ↦ absurd (true≢false (sym (due-tested i s r e) ∙ k.idle))
            | no n ↦ (r, omega (arith, (w.ok.aged i).young s r))
          ]
      go (inr k) =
          let r : Has k.tail s = rw k.left at q in
          let up : Ascending (due c (suc i) ∷ k.tail) = subst Ascending k.shape (w.ok.aged i).ascends in
          (rw k.shape (inr r), omega (arith, up.0 s r, (tested-due i k.ready).0))

  pub has_rest : (i s : ℕ) → Has (c.stages i) s → suc t < s + size c (suc i) → Has (rest c i) s
  has_rest i s q l = go (rest-view i)
    where
      go : Kept i ⊎ Taken i → Has (rest c i) s
      go (inl k) = rw k.same q
      go (inr k) =
          let r : Has (due c (suc i) ∷ k.tail) s = rw k.shape at q in
          elim r [
            | inl e ↦ absurd (omega (arith, (tested-due i k.ready).0))
            | inr o ↦ rw k.left o
          ]

  pub rest-ascending : (i : ℕ) → Ascending (rest c i)
  rest-ascending i =
      elim (rest-view i) [
        | inl k ↦ rw k.same (w.ok.aged i).ascends
        | inr k ↦ rw k.left (subst Ascending k.shape (w.ok.aged i).ascends).1
      ]

  -- A start that is tried stands where it is due, and one that enters a stage enters one below k.
  pub tried-at : (i : ℕ) → tested c i ≡ true → due c i + size c i ≡ suc t
  tried-at zero e = omega arith
  tried-at (suc i) e = omega (arith, (tested-due i e).0)

  pub tried-below : (i : ℕ) → tested c i ≡ true → i ≤ top c
  tried-below zero e = omega arith
  tried-below (suc i) e =
      elim (dec_le (top c) i) [
        | yes l ↦ absurd (true≢false (sym e ∙ untested c i (w.ok.empty i l)))
        | no n ↦ omega arith
      ]

  -- A start enters stage i at this byte: the one due there, whose block agrees.
  pub record Comes (i : ℕ) : Type 0 where
    pub tried : tested c i ≡ true
    pub fits : agrees c i ≡ true
    pub below : i < top c
    pub place : due c i + size c i ≡ suc t

  pub comes : (i : ℕ) → enters c i ≡ true → Comes i
  comes i e =
      let both : (matched c i ≡ true) × (not (eqb i (top c)) ≡ true) = (and-eq-true_iff (matched c i) _).0 e in
      let two : (tested c i ≡ true) × (agrees c i ≡ true) = (and-eq-true_iff (tested c i) _).0 both.0 in
      record {
        tried = two.0;
        fits = two.1;
        below = omega (arith, tried-below i two.0, eqb-false i (top c) (not-true (eqb i (top c)) both.1));
        place = tried-at i two.0;
      }

  -- What holds of a stage with and without a newcomer holds of it after the byte.
  pub entered-cases :
      (P : Entered → Type 0) (i : ℕ)
      → P (record { listed = rest c i; aside = [] })
      → (Comes i → P (joins c (rest c i) (due c i)))
      → P (entered c i)
  entered-cases P i f g = go (enters c i) refl
    where
      go : (b : Bool) → enters c i ≡ b → P (entered c i)
      go true e = rw e (g (comes i e))
      go false e = rw e f

  -- A start that a stage lists after the byte was left in it, or has just come.
  pub entered-has : (i s : ℕ) → Has (entered c i).listed s → Has (rest c i) s ⊎ ((due c i ≡ s) × Comes i)
  entered-has i s =
      entered-cases (λ e. Has e.listed s → Has (rest c i) s ⊎ ((due c i ≡ s) × Comes i)) i inl
      (λ k q.
      elim (enter-from c.tests c.history (rest c i) (due c i) s q) [
        | inl r ↦ inl r
        | inr r ↦ inr (r, k)
      ])

  -- What is left in a stage lies before its newcomer.
  pub rest_below : (i : ℕ) → Comes i → (s : ℕ) → Has (rest c i) s → s < due c i
  rest_below i k s q = omega (arith, (w.ok.aged i).old s (rest_has i s q).0)

  entered-ascending : (i : ℕ) → Ascending (entered c i).listed
  entered-ascending i =
      entered-cases (λ e. Ascending e.listed) i (rest-ascending i)
      (λ k.
      enter-ascending c.tests c.history (rest c i) (due c i) (rest-ascending i) (rest_below i k))

  -- The stages are in order after the byte too.
  pub next-staged : Staged c.tests.length (suc t) (λ i. (entered c i).listed)
  next-staged =
      record {
        aged =
            λ i.
            record {
              ascends = entered-ascending i;
              old =
                  λ s q.
                  elim (entered-has i s q) [
                    | inl r ↦ omega (arith, (w.ok.aged i).old s (rest_has i s r).0)
                    | inr r ↦ omega arith
                  ];
              young =
                  λ s q.
                  elim (entered-has i s q) [
                    | inl r ↦ (rest_has i s r).1
                    | inr r ↦ omega (arith, length-rises c.tests.length i r.1.below)
                  ];
            };
        empty =
            λ i l.
            nothing-in (entered c i).listed
            (λ s q.
            elim (entered-has i s q) [
              | inl r ↦ subst (λ xs. Has xs s) (w.ok.empty i l) (rest_has i s r).0
              | inr r ↦ omega arith
            ]);
      }

  -- No stage is ripe again after its visit, with or without a newcomer.
  pub rest-unripe : (i : ℕ) → ripe c.history (size c (suc i)) (rest c i) ≡ false
  rest-unripe i = unripe c.history _ (rest c i) (λ s q. omega (arith, (rest_has i s q).1))

  pub entered-unripe : (i : ℕ) → ripe c.history (size c (suc i)) (entered c i).listed ≡ false
  entered-unripe i =
      unripe c.history _ (entered c i).listed
      (λ s q. omega (arith, (next-staged.aged i).young s q))
