-- Whether a history holds a collision can be decided, by looking at every start and every tested beginning.
use Prim.Native.Nat.{ℕ, zero, suc, ◌+◌, ◌≤◌, ◌<◌}
use mathlib.Core.Path.{◌≡◌, subst}
use mathlib.Core.Logic.Dec
use mathlib.Core.Bool.{Bool, true, Bool-discrete}
use mathlib.Core.List.{List, List-discrete}
use native.Mathlib.Decide.{ℕ_discrete, dec_le}
use native.Mathlib.Omega.{arith}
use lib.ListN.{length}
use Rattle.ladder.specs.Prefix.{block, levels, prefix_length, prefix}
use Rattle.ladder.specs.Claim.{Collision}

-- A number below n with a property that can be decided.
below : (P : ℕ → Type 0) → ((i : ℕ) → Dec (P i)) → (n : ℕ) → Dec ((i : ℕ) × (i < n) × P i)
below P dec zero = no (λ q. omega (arith, q.1))
below P dec (suc n) = go (dec n) (below P dec n)
  where
    go : Dec (P n) → Dec ((i : ℕ) × (i < n) × P i) → Dec ((i : ℕ) × (i < suc n) × P i)
    go (yes q) r = yes (n, omega arith, q)
    go (no q) (yes r) = yes (r.0, omega (arith, r.1), r.2)
    go (no q) (no r) =
        no
        (λ u.
        elim (ℕ_discrete u.0 n) [
          | yes e ↦ q (subst P e u.2)
          | no k ↦ r (u.0, omega (arith, u.1), u.2)
        ])

module _ (agree : List ℕ → List ℕ → Bool) (p h : List ℕ) where
  -- The block behind s collides with P_i.
  abbrev Collides : ℕ → ℕ → Type 0
  Collides s i =
      (s + prefix_length (length p) i ≤ length h)
      × ((¬ (block h s (prefix_length (length p) i) ≡ prefix p i))
      × (agree (block h s (prefix_length (length p) i)) (prefix p i) ≡ true))

  dec_collides : (s i : ℕ) → Dec (Collides s i)
  dec_collides s i =
      Dec.and (dec_le (s + prefix_length (length p) i) (length h))
      (Dec.and
      (Dec.not (List-discrete ℕ_discrete (block h s (prefix_length (length p) i)) (prefix p i)))
      (Bool-discrete (agree (block h s (prefix_length (length p) i)) (prefix p i)) true))

  abbrev AtStart : ℕ → Type 0
  AtStart s = (i : ℕ) × (i < suc (levels (length p))) × Collides s i

  pub dec_collision : Dec (Collision agree p h)
  dec_collision = go (below AtStart (λ s. below (Collides s) (dec_collides s) (suc (levels (length p)))) (suc (length h)))
    where
      go : Dec ((s : ℕ) × (s < suc (length h)) × AtStart s) → Dec (Collision agree p h)
      go (yes q) =
          yes
          (record {
            start = q.0;
            index = q.2.0;
            tested = omega (arith, q.2.1);
            inside = q.2.2.0;
            differs = q.2.2.1.0;
            agrees = q.2.2.1.1;
          })
      go (no n) =
          no
          (λ q.
          n (
            q.start,
            omega (arith, q.inside),
            (q.index, omega (arith, q.tested), (q.inside, (q.differs, q.agrees))),
          ))
