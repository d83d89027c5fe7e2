-- A step of the ladder does what Byte.antt says: by following the levels from the highest down.
use Prim.Native.Nat.{ℕ, zero, suc, ◌+◌, ◌-◌, ◌≤◌, ◌<◌}
use mathlib.Core.Path.{◌≡◌, refl, sym, ap, subst, ◌∙◌}
use mathlib.Core.Bool.{Bool, true, false, cond, not, ◌&&◌}
use mathlib.Core.List.{[], ◌++◌, append-nil}
use mathlib.Core.Option.{none}
use native.Mathlib.Nat.{zero-add, add-zero}
use native.Mathlib.Omega.{arith}
use lib.ListN.{length}
use lib.Dec.{leb, eqb}
use borrow.Author.Tests.{eq-eqb, ne_eqb}
use Rattle.ladder.specs.Ladder.{put, lists, without, Walk, visit, descend, step}
use Rattle.ladder.proofs.Levels.{first-length}
use Rattle.ladder.proofs.Byte.{Byte, Stepped, top, size, due, tested, matched, rest, came, entered, asides, ripes}
use Rattle.ladder.proofs.Level.{comparing, compare-below, compare-count, Above, Through, compare-level, skip-level}

module _ (c : Byte) where
  abbrev visiting : ℕ → Walk → Walk
  visiting = visit c.tests c.history

  abbrev descending : ℕ → Walk → Walk
  descending = descend c.tests c.history

  -- Before stage i - 1 is visited: the levels above i are done, and the stages below i are still the old ones.
  record Ready (i : ℕ) (w : Walk) : Type 0 where
    done : Above c i w
    below : (j : ℕ) → j < i → w.stages j ≡ c.stages j
    count : w.answer.comparisons + ripes c i ≡ ripes c (top c)

  next-above : (i : ℕ) (w : Walk) → i < top c → Through c (suc i) w → w.stages i ≡ rest c i → Above c i w
  next-above i w l q e =
      record {
        here = e;
        above = q.stage;
        ring = λ o. q.ring;
        silent = λ o. absurd (omega arith);
        aside = q.aside;
      }

  module _ (i : ℕ) (w : Walk) (l : i < top c) (r : Ready (suc i) w) where
    -- the walk with the ripe start of stage i taken off
    abbrev taken : Walk
    taken = record { stages = put w.stages i (without (c.stages i) (due c (suc i))); answer = w.answer }

    taken-above : (j : ℕ) → i < j → taken.stages j ≡ w.stages j
    taken-above j o = rw (ne_eqb j i (omega arith))

    above-taken : Above c (suc i) taken
    above-taken =
        record {
          here = taken-above (suc i) (omega arith) ∙ r.done.here;
          above = λ j o. taken-above j (omega arith) ∙ r.done.above j o;
          ring = r.done.ring;
          silent = r.done.silent;
          aside = r.done.aside;
        }

    visit-cases : (b : Bool) → tested c (suc i) ≡ b → Ready i (cond b (comparing c (suc i) (due c (suc i)) taken) w)
    unfolding ripes
    visit-cases true t =
        record {
          done =
              next-above i _ l (compare-level c (suc i) taken above-taken l t)
              (compare-below c (suc i) _ i taken (omega arith) ∙ rw (t, eq-eqb i i refl));
          below =
              λ j o.
              compare-below c (suc i) _ j taken (omega arith)
              ∙ rw (ne_eqb j i (omega arith)) (r.below j (omega arith));
          count = rw (compare-count c) (omega (arith, rw t at r.count));
        }
    visit-cases false t =
        record {
          done = next-above i w l (skip-level c (suc i) w r.done l t) (rw t (r.below i (omega arith)));
          below = λ j o. r.below j (omega arith);
          count = omega (arith, rw t at r.count);
        }

    visit-ready : Ready i (visiting i w)
    unfolding visit tested
    visit-ready = rw (r.below i (omega arith), visit) (visit-cases (tested c (suc i)) refl)

  descend-ready : (i : ℕ) (w : Walk) → i ≤ top c → Ready i w → Ready 0 (descending i w)
  unfolding descend
  descend-ready zero w l r = r
  descend-ready (suc i) w l r = descend-ready i (visiting i w) (omega arith) (visit-ready i w l r)

  -- An empty stage has no ripe start.
  pub untested : (j : ℕ) → c.stages j ≡ [] → tested c (suc j) ≡ false
  unfolding tested lists
  untested j e = rw e (go (leb (size c (suc j)) (length c.history)))
    where
      go : (b : Bool) → b && false ≡ false
      go true = refl
      go false = refl

  -- Nothing is listed from stage k on.
  module _ (empty : (j : ℕ) → top c ≤ j → c.stages j ≡ []) where
    start : Walk
    start = record { stages = c.stages; answer = record { ring = none; aside = []; comparisons = 0 } }

    start-above : (j : ℕ) → top c < j → c.stages j ≡ (entered c j).listed
    start-above zero l = absurd (omega arith)
    start-above (suc j) l = rw (untested j (empty j (omega arith)), untested (suc j) (empty (suc j) (omega arith)))

    start-ready : Ready (top c) start
    unfolding start
    start-ready =
        record {
          done =
              record {
                here = rw (untested (top c) (empty (top c) (omega arith)));
                above = start-above;
                ring = λ o. absurd (omega arith);
                silent = λ o. refl;
                aside = refl;
              };
          below = λ j o. refl;
          count = zero-add _;
        }

    last-aside : asides c (suc (top c)) ≡ asides c (top c)
    unfolding asides
    last-aside = go (matched c (top c))
      where
        go : (b : Bool) → (came c (top c) (b && not (eqb (top c) (top c)))).aside ++ asides c (top c) ≡ asides c (top c)
        go true = rw (eq-eqb (top c) (top c) refl)
        go false = refl

    -- The last comparison is with P_0.
    pub step-closed : 1 ≤ c.tests.length → Stepped c (step c.tests c.history c.stages)
    unfolding step start tested ripes asides
    step-closed long =
        let w : Walk = descending (top c) start in
        let r : Ready 0 w = descend-ready (top c) start (omega arith) start-ready in
        let q : Through c 0 (comparing c 0 (due c 0) w) = compare-level c 0 w r.done (omega arith) refl in
        subst (λ n. Stepped c (comparing c 0 (length c.history - n) w)) (first-length c.tests.length long)
        (record {
          stage = λ i. q.stage i (omega arith);
          ring = q.ring;
          aside = sym (append-nil _) ∙ q.aside ∙ last-aside;
          comparisons = rw (compare-count c) (ap suc (sym (add-zero _) ∙ r.count));
        })
