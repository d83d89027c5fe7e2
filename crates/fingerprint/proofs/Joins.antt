-- The same block joined many times: in either order, and two joins as one of the block with itself.
-- Assumes nothing.
use Prim.Native.Nat.{ℕ, zero, suc, ◌+◌, ◌*◌, ◌/◌, ◌%◌, ◌≤◌, ◌<◌}
use mathlib.Core.Path.{◌≡◌, refl, sym, ◌∙◌, ap}
use native.Mathlib.Omega.{arith}
use Rattle.fingerprint.specs.declared.Key.{Key}
use Rattle.fingerprint.specs.declared.Power.{Power}
use Rattle.fingerprint.specs.declared.Fingerprint.{Fingerprint}
use Rattle.fingerprint.specs.Fingerprint.{power, squared, joined, joined_by, joined_times}
use Rattle.fingerprint.proofs.Laws.{join_by, square-power}
use Rattle.fingerprint.proofs.Behind.{joined-behind}

module _ (key : Key) (v : Fingerprint) (n : ℕ) where
  -- the first join, and then the others
  pub times-first : (k : ℕ) (u : Fingerprint) → joined_times key (suc k) u v n ≡ joined_times key k (joined key u v n) v n
  unfolding joined_times
  times-first zero u = refl
  times-first (suc k) u = ap (λ (f : Fingerprint). joined key f v n) (times-first k u)

  -- half as many joins of twice the block
  times-double : (k : ℕ) (u : Fingerprint) → joined_times key (k + k) u v n ≡ joined_times key k u (joined key v v n) (n + n)
  unfolding joined_times
  times-double zero u = refl
  times-double (suc k) u =
      let twice : suc k + suc k ≡ suc (suc (k + k)) = omega arith in
      ap (λ (l : ℕ). joined_times key l u v n) twice
      ∙ joined-behind key (joined_times key (k + k) u v n) v v n n
      ∙ ap (λ (f : Fingerprint). joined key f (joined key v v n) (n + n)) (times-double k u)

  -- joins behind a common front
  pub times-behind :
      (k : ℕ) (front u : Fingerprint) (m : ℕ)
      → joined_times key k (joined key front u m) v n ≡ joined key front (joined_times key k u v n) (m + k * n)
  unfolding joined_times
  times-behind zero front u m = ap (joined key front u) (omega arith)
  times-behind (suc k) front u m =
      ap (λ (f : Fingerprint). joined key f v n) (times-behind k front u m)
      ∙ joined-behind key front (joined_times key k u v n) v (m + k * n) n
      ∙ ap (joined key front (joined key (joined_times key k u v n) v n)) (omega arith)

-- What a loop that halves the times left has at hand: the front and the block, and r to the length of the block, where the shift is r to the
-- length of the first one.
pub record Halved (front other : Fingerprint) (shift : Power) (times : ℕ) (u v : Fingerprint) (power' : Power) (left : ℕ) : Type 0 where
  pub some : 1 ≤ left
  pub made :
      (key : Key) (n : ℕ)
      → shift ≡ power key n
      → (m : ℕ) × (power' ≡ power key m) × (joined_times key times front other n ≡ joined_times key left u v m)

pub halved-begin : (front other : Fingerprint) (shift : Power) (times : ℕ) → 1 ≤ times → Halved front other shift times front other shift times
halved-begin front other shift times l = record { some = l; made = λ key n e. (n, e, refl) }

module _ {front other : Fingerprint} {shift : Power} {times : ℕ} {u v : Fingerprint} {power' : Power} {left : ℕ}
    (q : Halved front other shift times u v power' left) (more : 1 < left) where
  -- an odd number of joins left, and an even one
  pub halved-odd :
      left % 2 ≡ 1
      → Halved front other shift times (joined_by power' u v) (joined_by power' v v) (squared power') (left / 2)
  halved-odd odd =
      record {
        some = omega arith;
        made =
            λ key n e.
            let r = q.made key n e in
            let halves : left ≡ suc (left / 2 + left / 2) = omega (arith, odd) in (
              r.0 + r.0,
              rw r.1 (square-power key r.0),
              r.2
                  ∙ ap (λ (l : ℕ). joined_times key l u v r.0) halves
                  ∙ times-first key v r.0 (left / 2 + left / 2) u
                  ∙ times-double key v r.0 (left / 2) (joined key u v r.0)
                  ∙ rw (r.1, join_by key u v r.0, join_by key v v r.0),
            );
      }

  pub halved-even :
      (left % 2 ≡ 1 → ⊥) → Halved front other shift times u (joined_by power' v v) (squared power') (left / 2)
  halved-even even =
      record {
        some = omega arith;
        made =
            λ key n e.
            let r = q.made key n e in
            let halves : left ≡ left / 2 + left / 2 = omega (arith, even) in (
              r.0 + r.0,
              rw r.1 (square-power key r.0),
              r.2
                  ∙ ap (λ (l : ℕ). joined_times key l u v r.0) halves
                  ∙ times-double key v r.0 (left / 2) u
                  ∙ rw (r.1, join_by key v v r.0),
            );
      }

-- one join is left
pub halved-end :
    {front other : Fingerprint} {shift : Power} {times : ℕ} {u v : Fingerprint} {power' : Power} {left : ℕ}
    → Halved front other shift times u v power' left
    → left ≤ 1
    → (key : Key) (n : ℕ)
    → shift ≡ power key n
    → joined_by power' u v ≡ joined_times key times front other n
unfolding joined_times
halved-end {u = u} {v} {left = left} q l key n e =
    let r = q.made key n e in
    let one : left ≡ 1 = omega (arith, q.some) in
    rw r.1 (join_by key u v r.0) ∙ sym (r.2 ∙ ap (λ (l : ℕ). joined_times key l u v r.0) one)
