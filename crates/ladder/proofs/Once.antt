-- No start is rung or set aside twice, nor both; a false ring is a collision; and no byte has too many comparisons.
use Prim.Native.Nat.{ℕ, zero, suc, ◌+◌, ◌-◌, ◌≤◌, ◌<◌}
use mathlib.Core.Path.{◌≡◌, refl, sym, ap, subst, ◌∙◌}
use mathlib.Core.Logic.{inl, inr}
use mathlib.Core.Bool.{Bool}
use mathlib.Core.List.{List}
use mathlib.Core.Option.{none-ne-some}
use native.Mathlib.Decide.{dec_le}
use native.Mathlib.Omega.{arith}
use lib.ListN.{length, take}
use lib.Seq.{length-take-le}
use Rattle.ladder.specs.Prefix.{block, levels, prefix_length}
use Rattle.ladder.specs.Ladder.{Tests, tests_of, Answer, after, answer_at}
use Rattle.ladder.specs.Claim.{starts_of, times, Occurrence, Rings, SetsAside, Collision}
use Rattle.ladder.proofs.Levels.{last-length}
use Rattle.ladder.proofs.Starts.{Has}
use Rattle.ladder.proofs.Blocks.{block-take, prefix-whole}
use Rattle.ladder.proofs.Stages.{met, after-staged, answer-aside}
use Rattle.ladder.proofs.Even.{after-even}
use Rattle.ladder.proofs.Times.{times-has}
use Rattle.ladder.proofs.Sets.{asides-once}
use Rattle.ladder.proofs.Fate.{Listed, AsideFacts, RingFacts, put-aside, rung-there, stays-gone}
use Rattle.ladder.proofs.Count.{ripe_count-bound, count-exact}

module _ (tests : Tests) (h : List ℕ) (long : 1 ≤ tests.length) where
  abbrev answers : ℕ → Answer
  answers = answer_at tests h

  -- Byte number n is number t + 1 for a t below the length, since there is no byte number 0; so Fate.antt knows of it.
  abbrev Known : (ℕ → ℕ → Type 0) → ℕ → ℕ → Type 0
  Known F n s = (t : ℕ) × (n ≡ suc t) × F t s

  ring-known : (s n : ℕ) → n ≤ length h → Rings (answers n) s → Known (RingFacts tests h) n s
  unfolding answer_at
  ring-known s zero l q = absurd (none-ne-some s q)
  ring-known s (suc t) l q = (t, refl, rung-there tests h long t l s q)

  aside-known : (s n : ℕ) → n ≤ length h → SetsAside (answers n) s → Known (AsideFacts tests h) n s
  unfolding answer_at starts_of times
  aside-known s zero l q = absurd (omega arith)
  aside-known s (suc t) l q =
      (t, refl, put-aside tests h long t l s (times-has (starts_of (answers (suc t)).aside) s q))

  -- A start set aside is not listed later.
  never-again : (s t u : ℕ) → t < u → u ≤ length h → AsideFacts tests h t s → Listed tests h u s → ⊥
  never-again s t u o l q =
      let e : suc t + (u - suc t) ≡ u = omega arith in
      subst (λ n. Listed tests h n s → ⊥) e
      (stays-gone tests h long (suc t) s (u - suc t) (omega arith) (omega (arith, q.early)) q.gone)

  aside-first : (s n n' : ℕ) → n ≤ length h → n' ≤ length h → SetsAside (answers n) s → SetsAside (answers n') s → n < n' → ⊥
  aside-first s n n' l l' q q' o =
      let a : Known (AsideFacts tests h) n s = aside-known s n l q in
      let b : Known (AsideFacts tests h) n' s = aside-known s n' l' q' in
      never-again s a.0 b.0 (omega arith) (omega arith) a.2 b.2.listed

  pub aside-once : (s n n' : ℕ) → n ≤ length h → n' ≤ length h → SetsAside (answers n) s → SetsAside (answers n') s → n ≡ n'
  aside-once s n n' l l' q q' =
      elim (dec_le (suc n) n') [
        | yes o ↦ absurd (aside-first s n n' l l' q q' o)
        | no k ↦
            elim (dec_le (suc n') n) [ yes o ↦ absurd (aside-first s n' n l' l q' q o) | no k' ↦ omega arith ]
      ]

  -- A start is rung at its last byte and set aside before it, so not both.
  pub not-both : (s n n' : ℕ) → n ≤ length h → n' ≤ length h → Rings (answers n) s → SetsAside (answers n') s → ⊥
  not-both s n n' l l' q q' =
      let a : Known (RingFacts tests h) n s = ring-known s n l q in
      let b : Known (AsideFacts tests h) n' s = aside-known s n' l' q' in
      elim a.2.listed [
        | inl e ↦
            subst (λ xs. Has xs s)
            ((after-staged tests h long b.0 (omega arith)).empty b.2.listed.0 (omega arith)) b.2.listed.1
        | inr x ↦ never-again s b.0 a.0 (omega (arith, a.2.last, b.2.late)) (omega arith) b.2 x
      ]

  pub rung-once : (s n n' : ℕ) → n ≤ length h → n' ≤ length h → Rings (answers n) s → Rings (answers n') s → n ≡ n'
  rung-once s n n' l l' q q' =
      let a : Known (RingFacts tests h) n s = ring-known s n l q in
      let b : Known (RingFacts tests h) n' s = ring-known s n' l' q' in
      omega (arith, a.2.last, b.2.last)

  -- Nor is it in two sets of one byte.
  pub one_set : (s n : ℕ) → n ≤ length h → times s (starts_of (answers n).aside) ≤ 1
  unfolding answer_at starts_of times
  one_set s zero l = omega arith
  one_set s (suc t) l =
      rw (answer-aside tests h long t l)
      (asides-once (met tests h long t l) (after-even tests h long t (omega arith)) (levels tests.length) s)

  -- One comparison, and one for each stage at the most.
  pub ceiling : (n : ℕ) → n ≤ length h → (answers n).comparisons ≤ suc (levels tests.length)
  unfolding answer_at
  ceiling zero l = omega arith
  ceiling (suc t) l =
      rw (count-exact tests h long t l)
      (omega (arith, ripe_count-bound tests.length (suc t) (after tests h t) (levels tests.length)))

module _ (agree : List ℕ → List ℕ → Bool) (p h : List ℕ) (long : 1 ≤ length p) where
  -- The block behind a false ring has the length and print of the pattern, and is another.
  false-ring-at :
      (s t : ℕ)
      → t < length h
      → RingFacts (tests_of agree p) h t s
      → (Occurrence p h s × (suc t ≡ s + length p) → ⊥)
      → Collision agree p (take (suc t) h)
  false-ring-at s t l r untrue =
      let ends : s + prefix_length (length p) (levels (length p)) ≡ suc t =
      ap (λ n. s + n) (last-length (length p)) ∙ r.last
      in
      record {
        start = s;
        index = levels (length p);
        tested = omega arith;
        inside = omega (arith, length-take-le (suc t) h l);
        differs =
            λ e.
            untrue (
              record {
                inside = omega (arith, r.last);
                same =
                    ap (block h s) (sym (last-length (length p)))
                    ∙ sym (block-take (suc t) s (prefix_length (length p) (levels (length p))) h (omega arith))
                    ∙ e
                    ∙ prefix-whole p;
              },
              sym r.last,
            );
        agrees = r.agrees;
      }

  pub false-ring :
      (s n : ℕ)
      → n ≤ length h
      → Rings (answer_at (tests_of agree p) h n) s
      → (Occurrence p h s × (n ≡ s + length p) → ⊥)
      → Collision agree p (take n h)
  false-ring s n l q untrue =
      let a : Known (tests_of agree p) h long (RingFacts (tests_of agree p) h) n s = ring-known (tests_of agree p) h long s n l q in
      subst (λ j. Collision agree p (take j h)) (sym a.1)
      (false-ring-at s a.0 (omega arith) a.2 (λ o. untrue (o.0, a.1 ∙ o.1)))
