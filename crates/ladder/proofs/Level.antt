-- One comparison, with P_i, in closed form: what it does when the levels above i are done and stage i waits for its newcomer.
use Prim.Native.Nat.{ℕ, suc, ◌≤◌, ◌<◌}
use mathlib.Core.Path.{◌≡◌, refl, ap, ◌∙◌}
use mathlib.Core.Bool.{Bool, true, false, cond, not, ◌&&◌}
use mathlib.Core.List.{List, ◌++◌, append_assoc}
use mathlib.Core.Option.{none, some}
use native.Mathlib.Decide.{ℕ_discrete}
use native.Mathlib.Omega.{arith}
use lib.Dec.{eqb}
use borrow.Author.Tests.{eq-eqb, ne_eqb}
use Rattle.ladder.specs.Prefix.{block}
use Rattle.ladder.specs.Ladder.{Progression, Walk, counted, ringing, entering, promote, compare}
use Rattle.ladder.proofs.Byte.{Byte, top, size, due, tested, matched, rest, enters, joins, came, entered, asides, rung}

module _ (c : Byte) where
  abbrev pub comparing : ℕ → ℕ → Walk → Walk
  comparing = compare c.tests c.history

  -- whether the block behind s agrees with P_i
  abbrev fits : ℕ → ℕ → Bool
  fits i s = c.tests.matches i (block c.history s (size c i))

  -- Comparing the block behind s with P_i: b says whether they agree, e whether i = k.
  abbrev compared : ℕ → ℕ → Walk → Bool → Bool → Walk
  compared i s w b e =
      record {
        stages = λ j. cond (b && not e && eqb j i) (joins c (w.stages i) s).listed (w.stages j);
        answer =
            record {
              ring = cond (b && e) (some s) w.answer.ring;
              aside = cond (b && not e) (w.answer.aside ++ (joins c (w.stages i) s).aside) w.answer.aside;
              comparisons = suc w.answer.comparisons;
            };
      }

  compare-closed : (i s : ℕ) (w : Walk) → comparing i s w ≡ compared i s w (fits i s) (eqb i (top c))
  unfolding compare promote
  compare-closed i s w = go (fits i s) (eqb i (top c))
    where
      go :
          (b e : Bool)
          → cond b
          (cond e (ringing s (counted w)) (entering c.tests c.history i s (counted w)))
          (counted w)
          ≡ compared i s w b e
      go true true = refl
      go true false = refl
      go false e = refl

  -- It leaves the stages below alone, and counts one.
  pub compare-below : (i s j : ℕ) (w : Walk) → j < i → (comparing i s w).stages j ≡ w.stages j
  compare-below i s j w l = rw compare-closed (go (fits i s && not (eqb i (top c))))
    where
      go : (x : Bool) → cond (x && eqb j i) (joins c (w.stages i) s).listed (w.stages j) ≡ w.stages j
      go true = rw (ne_eqb j i (omega arith))
      go false = refl

  pub compare-count : (i s : ℕ) (w : Walk) → (comparing i s w).answer.comparisons ≡ suc w.answer.comparisons
  compare-count i s w = rw compare-closed

  -- The levels above i are done, and stage i has lost its ripe start.
  pub record Above (i : ℕ) (w : Walk) : Type 0 where
    pub here : w.stages i ≡ rest c i
    pub above : (j : ℕ) → i < j → w.stages j ≡ (entered c j).listed
    pub ring : i < top c → w.answer.ring ≡ rung c
    pub silent : i ≡ top c → w.answer.ring ≡ none
    pub aside : w.answer.aside ++ asides c (suc i) ≡ asides c (suc (top c))

  -- Level i is done too.
  pub record Through (i : ℕ) (w : Walk) : Type 0 where
    pub stage : (j : ℕ) → i ≤ j → w.stages j ≡ (entered c j).listed
    pub ring : w.answer.ring ≡ rung c
    pub aside : w.answer.aside ++ asides c i ≡ asides c (suc (top c))

  module _ (i : ℕ) (w : Walk) (a : Above i w) where
    stage-here :
        (x : Bool)
        → cond (x && eqb i i) (joins c (w.stages i) (due c i)).listed (w.stages i) ≡ (came c i x).listed
    stage-here true = rw (eq-eqb i i refl, a.here)
    stage-here false = a.here

    stage-other :
        (x : Bool) (j : ℕ)
        → (j ≡ i → ⊥)
        → cond (x && eqb j i) (joins c (w.stages i) (due c i)).listed (w.stages j) ≡ w.stages j
    stage-other true j n = rw (ne_eqb j i n)
    stage-other false j n = refl

    sets :
        (x : Bool) (later : List Progression)
        → cond x (w.answer.aside ++ (joins c (w.stages i) (due c i)).aside) w.answer.aside ++ later
        ≡ w.answer.aside ++ ((came c i x).aside ++ later)
    sets true later = rw a.here (simp append_assoc)
    sets false later = refl

    rings : (b : Bool) → cond (b && false) (some (due c i)) w.answer.ring ≡ w.answer.ring
    rings true = refl
    rings false = refl

    rings-last :
        (b : Bool)
        → w.answer.ring ≡ none
        → cond (b && true) (some (due c i)) w.answer.ring ≡ cond b (some (due c i)) none
    rings-last true n = refl
    rings-last false n = n

    ring-level :
        i ≤ top c
        → Dec (i ≡ top c)
        → cond (matched c i && eqb i (top c)) (some (due c i)) w.answer.ring ≡ rung c
    ring-level l (yes e) =
        rw (eq-eqb i _ e)
        (rings-last (matched c i) (a.silent e) ∙ ap (λ j. cond (matched c j) (some (due c j)) none) e)
    ring-level l (no e) = rw (ne_eqb i _ e) (rings (matched c i) ∙ a.ring (omega arith))

    level : i ≤ top c → Through i (compared i (due c i) w (matched c i) (eqb i (top c)))
    unfolding asides
    level l =
        record {
          stage =
              λ j o.
              elim (ℕ_discrete j i) [
                | yes e ↦ rw e (stage-here (enters c i))
                | no e ↦ stage-other (enters c i) j e ∙ a.above j (omega arith)
              ];
          ring = ring-level l (ℕ_discrete i (top c));
          aside = sets (enters c i) (asides c i) ∙ a.aside;
        }

    -- Level i is done once its start was compared, and at once if there is none.
    pub compare-level : i ≤ top c → tested c i ≡ true → Through i (comparing i (due c i) w)
    compare-level l t = rw compare-closed (rw t at (level l))

    pub skip-level : i ≤ top c → tested c i ≡ false → Through i w
    skip-level l t =
        let q : Through i (compared i (due c i) w false (eqb i (top c))) = rw t at (level l) in
        record { stage = q.stage; ring = q.ring; aside = q.aside }
