-- Without a collision nothing is set aside: all listed starts are true matches and none is missing, so periods make their gaps equal.
use Prim.Native.Nat.{ℕ, zero, suc, ◌+◌, ◌-◌, ◌≤◌, ◌<◌}
use mathlib.Core.Path.{◌≡◌, refl, sym, ap, subst, ◌∙◌}
use mathlib.Core.Logic.{inl, inr}
use mathlib.Core.Bool.{Bool, true, true≢false}
use mathlib.Core.List.{List, [], ◌∷◌}
use native.Mathlib.Decide.{dec_le}
use native.Mathlib.Omega.{arith}
use lib.ListN.{length, take}
use lib.Seq.{length-take-le}
use borrow.Author.Tests.{eq-eqb}
use Rattle.ladder.specs.Prefix.{block, prefix}
use Rattle.ladder.specs.Ladder.{tests_of, last_of, answer_at}
use Rattle.ladder.specs.Claim.{starts_of, Collision}
use Rattle.ladder.proofs.Levels.{length-within, length-doubles}
use Rattle.ladder.proofs.Starts.{Has, Ascending, has_last, last-greatest}
use Rattle.ladder.proofs.Blocks.{block-take, block-front}
use Rattle.ladder.proofs.Periods.{Stands, block-stands, stands-block}
use Rattle.ladder.proofs.Spacing.{spacing}
use Rattle.ladder.proofs.Enter.{Breaks, enter-cases}
use Rattle.ladder.proofs.Byte.{Byte, byte_at, top, size, due, rest, entered, asides}
use Rattle.ladder.proofs.Visited.{Met, Comes, rest_has, has_rest, rest-ascending, rest_below, entered-cases}
use Rattle.ladder.proofs.Stages.{met, answer-aside}
use Rattle.ladder.proofs.Even.{Even, Prior, prior, rest-even, after-even}
use Rattle.ladder.proofs.Matches.{new-matched, after-matched, true-match, collision-later}
use Rattle.ladder.proofs.Complete.{complete}
use Rattle.ladder.proofs.Fate.{Dropped}

module _
    (agree : List ℕ → List ℕ → Bool) (same : (u : List ℕ) → agree u u ≡ true) (p h : List ℕ) (long : 1 ≤ length p)
  where
    -- One byte, with no collision up to it and nothing set aside before it.
    module _
        (t : ℕ) (l : t < length h)
        (clean : Collision agree p (take (suc t) h) → ⊥)
        (kept : (s : ℕ) → Dropped (tests_of agree p) h t s → ⊥)
      where
        abbrev c : Byte
        c = byte_at (tests_of agree p) h t

        abbrev w : Met c t
        w = met (tests_of agree p) h long t l

        module _ (i : ℕ) (k : Comes w i) where
          abbrev word : List ℕ
          word = prefix p i

          word-length : length word ≡ size c i
          word-length = length-take-le (size c i) p (length-within (length p) i)

          -- What is listed is a true match, and so is the newcomer.
          rest-true : (s : ℕ) → Has (rest c i) s → block h s (size c i) ≡ word
          rest-true s q =
              let r : Has (c.stages i) s = (rest_has w i s q).0 in
              true-match agree p h (suc t) i s l (omega (arith, k.below)) (omega (arith, (w.ok.aged i).old s r))
              (after-matched (tests_of agree p) h long t (omega arith) i s r) clean

          new_true : block h (due c i) (size c i) ≡ word
          new_true =
              true-match agree p h (suc t) i (due c i) l (omega (arith, k.below)) (omega (arith, k.place))
              (new-matched (tests_of agree p) h long t l i k) clean

          stands : (s : ℕ) → block h s (size c i) ≡ word → Stands h word s
          stands s e = block-stands h word s (rw word-length e)

          -- No true match before the newcomer is missing.
          none-missing : (s : ℕ) → Stands h word s → s < due c i → suc t < s + size c (suc i) → Has (rest c i) s
          none-missing s q o young =
              elim (complete agree same p h long t (omega arith) i s k.below (omega (arith, k.place)) (omega arith)
              (rw word-length at (stands-block h word s (omega (arith, word-length, k.place)) q))) [
                | inl r ↦ has_rest w i s r young
                | inr d ↦ absurd (kept s d)
              ]

          -- Suppose that the newcomer does not continue the starts.
          module _ (b : Breaks (tests_of agree p) (take (suc t) h) (rest c i) (due c i)) where
            abbrev starts : List ℕ
            starts = b.x ∷ b.y ∷ b.more

            abbrev last : ℕ
            last = last_of b.y b.more

            abbrev d : ℕ
            d = b.y - b.x

            up : Ascending starts
            up = subst Ascending b.shape (rest-ascending w i)

            before : Prior d starts last
            before =
                prior d b.x b.y b.more
                (subst Even b.shape (rest-even w i (after-even (tests_of agree p) h long t (omega arith) i))) up

            -- what is known of a listed start
            of : (s : ℕ) → Has starts s → (s < due c i) × (suc t < s + size c (suc i)) × Stands h word s
            of s q =
                let r : Has (rest c i) s = rw b.shape q in
                (rest_below w i k s r, (rest_has w i s r).1, stands s (rest-true s r))

            has-final : Has starts last
            has-final = inr (has_last b.y b.more)

            near : d + (due c i - last) ≤ length word
            near =
                let young : suc t < before.start + size c (suc i) = (of before.start before.listed).1 in
                omega (arith, word-length, before.gap, (of last has-final).0, k.place, length-doubles (length p) i)

            -- The gap to the newcomer is that of the others, and so are its bytes.
            equal : due c i - last ≡ d
            unfolding last_of
            equal =
                let positive : b.x < b.y = up.0 b.y (inl refl) in
                spacing h word starts d last (due c i) before (omega arith) (of last has-final).0 near
                (of before.start before.listed).2 (of last has-final).2 (stands (due c i) new_true)
                (last-greatest b.x (b.y ∷ b.more) up)
                (λ s q o u.
                rw b.shape at (none-missing s q u (omega (arith, (of before.start before.listed).1))))

            front : (s : ℕ) → Has starts s → block (take (suc t) h) s d ≡ take d word
            front s q =
                block-take (suc t) s d h (omega (arith, (of s q).0, near, word-length, k.place))
                ∙ sym (block-front h s d (size c i) (omega (arith, near, word-length)))
                ∙ ap (take d) (rest-true s (rw b.shape q))

            impossible : ⊥
            impossible =
                true≢false
                (sym
                (rw (equal, eq-eqb d d refl, front last has-final, front b.x (inl refl)) (same (take d word)))
                ∙ b.fails)

        stage-quiet : (i : ℕ) → (entered c i).aside ≡ []
        stage-quiet i =
            entered-cases w (λ x. x.aside ≡ []) i refl
            (λ k.
            enter-cases (tests_of agree p) (take (suc t) h) (λ x. x.aside ≡ []) (rest c i) (due c i) (λ f. refl)
            (λ b. absurd (impossible i k b)))

        stages-quiet : (n : ℕ) → asides c n ≡ []
        unfolding asides
        stages-quiet zero = refl
        stages-quiet (suc n) = rw (stage-quiet n, stages-quiet n)

        byte-quiet : (answer_at (tests_of agree p) h (suc t)).aside ≡ []
        byte-quiet = answer-aside (tests_of agree p) h long t l ∙ stages-quiet (top c)

    -- Up to a byte before which there is no collision, nothing is set aside.
    pub quiet :
        (t : ℕ)
        → t ≤ length h
        → (Collision agree p (take t h) → ⊥)
        → (n : ℕ)
        → n ≤ t
        → (answer_at (tests_of agree p) h n).aside ≡ []
    unfolding answer_at starts_of
    quiet zero l clean n o = subst (λ j. (answer_at (tests_of agree p) h j).aside ≡ []) {x = 0} {y = n} (omega arith) refl
    quiet (suc t) l clean n o =
        let before : (j : ℕ) → j ≤ t → (answer_at (tests_of agree p) h j).aside ≡ [] =
        quiet t (omega arith) (λ q. clean (collision-later agree p h t l q))
        in
        elim (dec_le n t) [
          | yes a ↦ before n a
          | no a ↦
              subst (λ j. (answer_at (tests_of agree p) h j).aside ≡ []) {x = suc t} {y = n} (omega arith)
              (byte-quiet t l clean (λ s d. subst (λ x. Has (starts_of x) s) (before d.0 d.2) d.3))
        ]
