-- The ladder with unlimited lists does what demand 3 says: the claim holds of every history with the answers that the ladder gives.
use Prim.Native.Nat.{ℕ, suc, ◌+◌, ◌-◌, ◌≤◌, ◌<◌}
use mathlib.Core.Path.{◌≡◌, sym, ap, subst, ◌∙◌}
use mathlib.Core.Logic.{◌⊎◌, inl, inr}
use mathlib.Core.Bool.{Bool, true}
use mathlib.Core.List.{List, []}
use mathlib.Core.Option.{some}
use native.Mathlib.Omega.{arith}
use lib.ListN.{length, take}
use Rattle.ladder.specs.Prefix.{block, levels, prefix_length, prefix}
use Rattle.ladder.specs.Ladder.{tests_of, Answer, answer_at}
use Rattle.ladder.specs.Claim.{starts_of, Occurrence, Rings, SetsAside, Collision, Claim}
use Rattle.ladder.proofs.Levels.{last-length}
use Rattle.ladder.proofs.Blocks.{prefix-whole}
use Rattle.ladder.proofs.Byte.{Byte, byte_at, top, due, matched}
use Rattle.ladder.proofs.Stages.{answer-ring}
use Rattle.ladder.proofs.Times.{has-times}
use Rattle.ladder.proofs.Complete.{complete, comes-up, matches}
use Rattle.ladder.proofs.Search.{dec_collision}
use Rattle.ladder.proofs.Quiet.{quiet}
use Rattle.ladder.proofs.Once.{aside-once, not-both, rung-once, one_set, ceiling, false-ring}

module _
    (agree : List ℕ → List ℕ → Bool) (same : (u : List ℕ) → agree u u ≡ true) (p h : List ℕ) (long : 1 ≤ length p)
  where
    abbrev answers : ℕ → Answer
    answers = answer_at (tests_of agree p) h

    -- Where a set is set aside, there is a collision: without one all is quiet.
    aside-collides : (n : ℕ) → n ≤ length h → ((answers n).aside ≡ [] → ⊥) → Collision agree p (take n h)
    aside-collides n l some-set =
        elim (dec_collision agree p (take n h)) [
          | yes q ↦ q
          | no clean ↦ absurd (some-set (quiet agree same p h long n l clean n (omega arith)))
        ]

    abbrev Found : ℕ → ℕ → Type 0
    Found s n = Rings (answers n) s ⊎ ((j : ℕ) × (0 < j) × (j < n) × SetsAside (answers j) s)

    -- A true occurrence comes up to its last test and passes it, unless it was set aside before.
    found_at : (s t : ℕ) → t < length h → s + length p ≡ suc t → block h s (length p) ≡ p → Found s (suc t)
    found_at s t l e occurs =
        let ends : s + prefix_length (length p) (levels (length p)) ≡ suc t = ap (λ n. s + n) (last-length (length p)) ∙ e in
        let stands : block h s (prefix_length (length p) (levels (length p))) ≡ prefix p (levels (length p)) =
        ap (block h s) (last-length (length p)) ∙ occurs ∙ sym (prefix-whole p)
        in
        elim
        (comes-up agree same p h long t l (complete agree same p h long t (omega arith)) (levels (length p)) s (omega arith)
        ends stands) [
          | inl q ↦
              let c : Byte = byte_at (tests_of agree p) h t in
              let m : (due c (top c) ≡ s) × (matched c (top c) ≡ true) =
              matches agree same p h long t l (top c) s ends stands q
              in
              inl (answer-ring (tests_of agree p) h long t l ∙ rw m.1 (ap some m.0))
          | inr d ↦
              inr (d.0, d.1, omega (arith, d.2), has-times (starts_of (answers d.0).aside) s d.3)
        ]

    found : (s : ℕ) → Occurrence p h s → Found s (s + length p)
    found s q =
        let e : suc (s + length p - 1) ≡ s + length p = omega arith in
        subst (Found s) e (found_at s (s + length p - 1) (omega (arith, q.inside)) (sym e) q.same)

pub ladder-claim :
    (agree : List ℕ → List ℕ → Bool)
    → ((u : List ℕ) → agree u u ≡ true)
    → (p h : List ℕ)
    → 1 ≤ length p
    → Claim agree p h (answer_at (tests_of agree p) h)
ladder-claim agree same p h long =
    record {
      found = found agree same p h long;
      not-both = not-both (tests_of agree p) h long;
      rung-once = rung-once (tests_of agree p) h long;
      aside-once = aside-once (tests_of agree p) h long;
      aside-in-one-set = one_set (tests_of agree p) h long;
      false-ring = false-ring agree p h long;
      aside-collides = aside-collides agree same p h long;
      ceiling = ceiling (tests_of agree p) h long;
    }
