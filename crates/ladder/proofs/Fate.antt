-- What becomes of a start: it is rung at its last byte only, set aside before that, and once it is listed nowhere it stays so.
use Prim.Native.Nat.{ℕ, zero, suc, ◌+◌, ◌≤◌, ◌<◌}
use mathlib.Core.Path.{◌≡◌, refl, sym, subst, ◌∙◌}
use mathlib.Core.Logic.{◌⊎◌, inl, inr}
use mathlib.Core.Bool.{Bool, true, false, cond, and-eq-true_iff}
use mathlib.Core.List.{List}
use mathlib.Core.Option.{none, some, none-ne-some, some-injective}
use native.Mathlib.Nat.{add-zero, add-suc}
use native.Mathlib.Omega.{arith}
use lib.ListN.{length, take}
use Rattle.ladder.specs.Prefix.{block, levels, prefix_length}
use Rattle.ladder.specs.Ladder.{Tests, after, answer_at}
use Rattle.ladder.specs.Claim.{starts_of}
use Rattle.ladder.proofs.Levels.{last-length, length-positive, length-within}
use Rattle.ladder.proofs.Starts.{Has}
use Rattle.ladder.proofs.Byte.{Byte, byte_at, top, size, due, tested, agrees, matched}
use Rattle.ladder.proofs.Visited.{Met, tested-due, tried-at, rest_has, entered-has}
use Rattle.ladder.proofs.Stages.{met, after-stage, answer-ring, answer-aside}
use Rattle.ladder.proofs.Even.{after-even}
use Rattle.ladder.proofs.Sets.{set_at, asides-from, entered-drops, aside-nowhere}

module _ (tests : Tests) (h : List ℕ) where
  -- The start s is listed in some stage after t bytes.
  abbrev pub Listed : ℕ → ℕ → Type 0
  Listed t s = (i : ℕ) × Has (after tests h t i) s

  -- It is set aside at byte number n.
  abbrev pub AsideAt : ℕ → ℕ → Type 0
  AsideAt n s = Has (starts_of (answer_at tests h n).aside) s

  -- It was set aside at one of the first t bytes.
  abbrev pub Dropped : ℕ → ℕ → Type 0
  Dropped t s = (n : ℕ) × (0 < n) × (n ≤ t) × AsideAt n s

  -- What is known of a start set aside at byte number t + 1, and of one rung there.
  pub record AsideFacts (t s : ℕ) : Type 0 where
    pub listed : Listed t s
    pub gone : Listed (suc t) s → ⊥
    pub early : s < t
    pub late : suc t < s + tests.length

  pub record RingFacts (t s : ℕ) : Type 0 where
    pub listed : (levels tests.length ≡ 0) ⊎ Listed t s
    pub last : s + tests.length ≡ suc t
    pub agrees :
        tests.matches (levels tests.length) (block (take (suc t) h) s (prefix_length tests.length (levels tests.length)))
        ≡ true

module _ (tests : Tests) (h : List ℕ) (long : 1 ≤ tests.length) where
  module _ (t : ℕ) (l : t < length h) where
    abbrev c : Byte
    c = byte_at tests h t

    w : Met c t
    w = met tests h long t l

    -- A start that is tried is that of this byte, or was listed.
    tried-listed : (i : ℕ) → tested c i ≡ true → (i ≡ 0) ⊎ Listed tests h t (due c i)
    tried-listed zero e = inl refl
    tried-listed (suc i) e = inr (i, (tested-due w i e).1)

    listed-before : (s : ℕ) → s < t → Listed tests h (suc t) s → Listed tests h t s
    listed-before s o q =
        elim (entered-has w q.0 s (subst (λ xs. Has xs s) (after-stage tests h long t l q.0) q.1)) [
          | inl r ↦ (q.0, (rest_has w q.0 s r).0)
          | inr r ↦
              elim (tried-listed q.0 r.1.tried) [
                | inl e ↦
                    let here : (due c 0 ≡ s) × (due c 0 + size c 0 ≡ suc t) =
                    subst (λ j. (due c j ≡ s) × (due c j + size c j ≡ suc t)) e (r.0, r.1.place)
                    in
                    absurd (omega arith)
                | inr u ↦ subst (Listed tests h t) r.0 u
              ]
        ]

    -- The two kinds of end, at byte number t + 1.
    pub put-aside : (s : ℕ) → AsideAt tests h (suc t) s → AsideFacts tests h t s
    put-aside s q =
        let o : (i : ℕ) × (i < top c) × Has (set_at c i) s =
        asides-from w (after-even tests h long t (omega arith)) (top c) s
        (subst (λ a. Has (starts_of a) s) (answer-aside tests h long t l) q)
        in
        let r : Has (c.stages o.0) s × (suc t < s + size c (suc o.0)) =
        rest_has w o.0 s (entered-drops w (after-even tests h long t (omega arith)) o.0 s o.2).0
        in
        let u : s + size c o.0 ≤ t = (w.ok.aged o.0).old s r.0 in
        record {
          listed = (o.0, r.0);
          gone =
              λ x.
              aside-nowhere w (after-even tests h long t (omega arith)) o.0 x.0 s o.2
              (subst (λ xs. Has xs s) (after-stage tests h long t l x.0) x.1);
          early = omega (arith, length-positive tests.length o.0 long);
          late = omega (arith, length-within tests.length (suc o.0));
        }

    rung-is : (b : Bool) (s z : ℕ) → cond b (some z) none ≡ some s → (b ≡ true) × (z ≡ s)
    rung-is true s z e = (refl, some-injective z s e)
    rung-is false s z e = absurd (none-ne-some s e)

    pub rung-there : (s : ℕ) → (answer_at tests h (suc t)).ring ≡ some s → RingFacts tests h t s
    rung-there s q =
        let m : (matched c (top c) ≡ true) × (due c (top c) ≡ s) =
        rung-is (matched c (top c)) s (due c (top c)) (sym (answer-ring tests h long t l) ∙ q)
        in
        let b : (tested c (top c) ≡ true) × (agrees c (top c) ≡ true) =
        (and-eq-true_iff (tested c (top c)) (agrees c (top c))).0 m.0
        in
        record {
          listed =
              elim (tried-listed (top c) b.0) [ inl e ↦ inl e | inr u ↦ inr (subst (Listed tests h t) m.1 u) ];
          last = omega (arith, tried-at w (top c) b.0, last-length tests.length);
          agrees = rw m.1 at b.1;
        }

  -- Once listed nowhere, a start stays so.
  pub stays-gone : (t s d : ℕ) → t + d ≤ length h → s < t → (Listed tests h t s → ⊥) → Listed tests h (t + d) s → ⊥
  stays-gone t s zero l o n = rw add-zero n
  stays-gone t s (suc d) l o n =
      rw add-suc
      (λ q. stays-gone t s d (omega arith) o n (listed-before (t + d) (omega arith) s (omega arith) q))
