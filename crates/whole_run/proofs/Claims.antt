-- What demand 3 says of a history holds of every history whose answers are the ladder's.
-- Assumes nothing.
use Prim.Native.Nat.{ℕ, zero, suc, ◌≤◌}
use mathlib.Core.Path.{◌≡◌, refl}
use mathlib.Core.Logic.{inl, inr}
use mathlib.Core.Bool.{Bool}
use mathlib.Core.List.{List}
use native.Mathlib.Omega.{arith}
use lib.ListN.{length}
use Rattle.fingerprint.specs.declared.Key.{Key}
use Rattle.fingerprint.specs.Fingerprint.{agree_under}
use Rattle.fingerprint.proofs.Laws.{agree-self}
use Rattle.ladder.specs.Ladder.{Answer, answer_at}
use Rattle.ladder.specs.Claim.{Claim}
use Rattle.ladder.proofs.Theorem.{ladder-claim}
use Rattle.refinement.specs.Refinement.{passage_tests}
use Rattle.whole_run.specs.History.{History, bytes_of, answers_of}
use Rattle.whole_run.proofs.Histories.{Faithful, length-bytes}

-- The claim turns on the answers at the history's bytes alone.
module _
    (agree : List ℕ → List ℕ → Bool)
    (p h : List ℕ)
    (a b : ℕ → Answer)
    (same : (n : ℕ) → n ≤ length h → a n ≡ b n)
  where
    claim-of : Claim agree p h b → Claim agree p h a
    claim-of c =
        record {
          found =
              λ s o.
              elim (c.found s o) [
                | inl r ↦ inl (rw (same _ o.inside) r)
                | inr d ↦ inr (d.0, d.1, d.2, rw (same d.0 (omega (arith, o.inside, d.2))) d.3)
              ];
          not-both = λ s n n' l l' r d. c.not-both s n n' l l' (rw (same n l) at r) (rw (same n' l') at d);
          rung-once = λ s n n' l l' r r'. c.rung-once s n n' l l' (rw (same n l) at r) (rw (same n' l') at r');
          aside-once = λ s n n' l l' d d'. c.aside-once s n n' l l' (rw (same n l) at d) (rw (same n' l') at d');
          aside-in-one-set = λ s n l. rw (same n l) (c.aside-in-one-set s n l);
          false-ring = λ s n l r. c.false-ring s n l (rw (same n l) at r);
          aside-collides = λ n l d. c.aside-collides n l (rw (same n l) at d);
          ceiling = λ n l. rw (same n l) (c.ceiling n l);
        }

module _ {key : Key} {p : List ℕ} {h : History} (faithful : Faithful key p h) where
  pub answers-same : (n : ℕ) → n ≤ length (bytes_of h) → answers_of h n ≡ answer_at (passage_tests key p) (bytes_of h) n
  unfolding answer_at
  answers-same zero l = refl
  answers-same (suc n) l = faithful.answers (suc n) (omega arith) (omega (arith, length-bytes h))

  pub faithful-claim : 1 ≤ length p → Claim (agree_under key) p (bytes_of h) (answers_of h)
  faithful-claim long =
      claim-of (agree_under key) p (bytes_of h) (answers_of h) (answer_at (passage_tests key p) (bytes_of h)) answers-same
      (ladder-claim (agree_under key) (agree-self key) p (bytes_of h) long)
