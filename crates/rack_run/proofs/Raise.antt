-- Answers whose starts are raised, read as the ladder's: what they ring and set aside, and that demand 3 of the bytes behind the first c of
-- a stream is demand 3 of those bytes by themselves.
-- Assumes nothing.
use Prim.Native.Nat.{ℕ, zero, suc, ◌+◌, ◌-◌, ◌≤◌, ◌<◌}
use mathlib.Core.Path.{◌≡◌, refl, sym, ◌∙◌, ap, subst}
use mathlib.Core.Logic.{inl, inr}
use mathlib.Core.Bool.{Bool}
use mathlib.Core.List.{List, [], ◌∷◌, ◌++◌, map, map-append}
use mathlib.Core.Option as math
use native.Mathlib.Decide.{ℕ_discrete, dec_le}
use native.Mathlib.Omega.{arith}
use borrow.Author.Tests.{eq-eqb, ne_eqb}
use lib.ListN.{length, take, drop, length-drop}
use lib.Seq.{length-take-le, take-add, drop_at, drop-drop}
use Rattle.std.specs.Prelude.{Option, None, Some}
use Rattle.ladder.specs.Prefix.{block}
use Rattle.ladder.specs.Ladder as ladder
use Rattle.ladder.specs.Claim.{Occurrence, starts_from, starts_of, times, Rings, SetsAside, Collision, Claim}
use Rattle.stage.specs.declared.Progression.{Progression}
use Rattle.walk.specs.declared.Answer.{Answer}
use Rattle.raising.specs.Raised.{raised_ring, raised_set, raised_answer}
use Rattle.refinement.specs.Refinement.{read_ring, read_set, read_answer}
use Rattle.rack_run.specs.Names.{up_set, up, ClaimSince}

read-ring : (c : ℕ) (r : Option ℕ) → read_ring (raised_ring c r) ≡ math.map (λ s. c + s) (read_ring r)
read-ring c None = refl
read-ring c (Some start) = refl

read-sets :
    (c n : ℕ) (l : List Progression)
    → map read_set (take n (map (raised_set c) (take n l) ++ drop n l)) ≡ map (up_set c) (map read_set (take n l))
read-sets c zero l = refl
read-sets c (suc n) [] = refl
read-sets c (suc n) (x ∷ l) = ap (λ (r : List ladder.Progression). up_set c (read_set x) ∷ r) (read-sets c n l)

pub read-raised : (c : ℕ) (a : Answer) → read_answer (raised_answer c a) ≡ up c (read_answer a)
read-raised c a =
    λ i. record { ring = read-ring c a.ring i; aside = read-sets c a.asides a.sets i; comparisons = a.comparisons }

-- The starts of raised sets are the sets' starts, raised.
from-raised :
    (c first step many : ℕ) → starts_from (c + first) step many ≡ map (λ s. c + s) (starts_from first step many)
unfolding starts_from
from-raised c first step zero = refl
from-raised c first step (suc many) =
    ap (λ (r : List ℕ). (c + first) ∷ r)
    (ap (λ (n : ℕ). starts_from n step many) (omega arith) ∙ from-raised c (first + step) step many)

starts-raised : (c : ℕ) (sets : List ladder.Progression) → starts_of (map (up_set c) sets) ≡ map (λ s. c + s) (starts_of sets)
unfolding starts_of
starts-raised c [] = refl
starts-raised c (x ∷ sets) =
    rw (from-raised c x.first x.step x.many, starts-raised c sets)
    (sym (map-append _ (starts_from x.first x.step x.many) (starts_of sets)))

-- A start below c stands in no such list, another as often as it stood before it was raised.
times-raised : (c s : ℕ) (xs : List ℕ) → c ≤ s → times s (map (λ x. c + x) xs) ≡ times (s - c) xs
unfolding times
times-raised c s [] l = refl
times-raised c s (x ∷ xs) l =
    elim (ℕ_discrete (c + x) s) [
      | yes e ↦ rw (eq-eqb (c + x) s e, eq-eqb x (s - c) (omega arith), times-raised c s xs l)
      | no n ↦ rw (ne_eqb (c + x) s n, ne_eqb x (s - c) (λ e. n (omega arith))) (times-raised c s xs l)
    ]

times_below : (c s : ℕ) (xs : List ℕ) → s < c → times s (map (λ x. c + x) xs) ≡ 0
unfolding times
times_below c s [] l = refl
times_below c s (x ∷ xs) l = rw (ne_eqb (c + x) s (λ e. omega arith)) (times_below c s xs l)

module _ (c s : ℕ) (a : ladder.Answer) where
  times-up : c ≤ s → times s (starts_of (up c a).aside) ≡ times (s - c) (starts_of a.aside)
  times-up l = rw (starts-raised c a.aside) (times-raised c s (starts_of a.aside) l)

  times-out : s < c → times s (starts_of (up c a).aside) ≡ 0
  times-out l = rw (starts-raised c a.aside) (times_below c s (starts_of a.aside) l)

  aside-from : SetsAside (up c a) s → c ≤ s
  aside-from q =
      elim (dec_le c s) [
        | yes l ↦ l
        | no l ↦ absurd (omega (arith, times-out (omega arith)))
      ]

  aside-down : SetsAside (up c a) s → SetsAside a (s - c)
  aside-down q = omega (arith, times-up (aside-from q))

  aside_up : c ≤ s → SetsAside a (s - c) → SetsAside (up c a) s
  aside_up l q = omega (arith, times-up l)

  ring-up : c ≤ s → Rings a (s - c) → Rings (up c a) s
  ring-up l r = rw r (ap {B = math.Option ℕ} math.some (omega arith))

raised-ring : (c s : ℕ) (r : math.Option ℕ) → math.map (λ x. c + x) r ≡ math.some s → (c ≤ s) × (r ≡ math.some (s - c))
raised-ring c s math.none e = absurd cc
raised-ring c s (math.some x) e = let h : c + x ≡ s = cc in (omega arith, ap {B = math.Option ℕ} math.some (omega arith))

-- A place of the bytes behind the first c, as the stream counts it, and a block there.
drop-take : (c n : ℕ) (l : List ℕ) → c ≤ n → c ≤ length l → drop c (take n l) ≡ take (n - c) (drop c l)
drop-take c n l h b =
    let e : n ≡ c + (n - c) = omega arith in
    ap (λ (m : ℕ). drop c (take m l)) e
    ∙ ap (drop c) (take-add c (n - c) l)
    ∙ drop_at (take c l) (take (n - c) (drop c l)) c (length-take-le c l b)

module _ (c : ℕ) (p bytes : List ℕ) (s : ℕ) (l : c ≤ s) where
  block-behind : block (drop c bytes) (s - c) (length p) ≡ block bytes s (length p)
  block-behind =
      let e : c + (s - c) ≡ s = omega arith in
      ap (take (length p)) (drop-drop (s - c) c bytes ∙ ap (λ (n : ℕ). drop n bytes) e)

  occurrence-down : 1 ≤ length p → Occurrence p bytes s → Occurrence p (drop c bytes) (s - c)
  occurrence-down long o =
      record { inside = omega (arith, o.inside, length-drop c bytes); same = block-behind ∙ o.same }

  occurrence-up : c ≤ length bytes → Occurrence p (drop c bytes) (s - c) → Occurrence p bytes s
  occurrence-up b o = record { inside = omega (arith, o.inside, length-drop c bytes); same = sym block-behind ∙ o.same }

-- Demand 3 of the bytes behind the first c by themselves, and answers of the stream there that are those to these bytes, raised by c.
module _
    (agree : List ℕ → List ℕ → Bool)
    (p bytes : List ℕ)
    (c : ℕ)
    (own answers : ℕ → ladder.Answer)
    (long : 1 ≤ length p)
    (begun : c ≤ length bytes)
    (same : (n : ℕ) → c < n → n ≤ length bytes → answers n ≡ up c (own (n - c)))
    (q : Claim agree p (drop c bytes) own)
  where
    within : (n : ℕ) → n ≤ length bytes → n - c ≤ length (drop c bytes)
    within n h = omega (arith, length-drop c bytes)

    rung : (s n : ℕ) → c < n → n ≤ length bytes → Rings (answers n) s → (c ≤ s) × Rings (own (n - c)) (s - c)
    rung s n l h r = raised-ring c s (own (n - c)).ring (rw (same n l h) at r)

    aside : (s n : ℕ) → c < n → n ≤ length bytes → SetsAside (answers n) s → (c ≤ s) × SetsAside (own (n - c)) (s - c)
    aside s n l h d =
        let d' : SetsAside (up c (own (n - c))) s = rw (same n l h) at d in
        (aside-from c s (own (n - c)) d', aside-down c s (own (n - c)) d')

    collision : (n : ℕ) → c < n → Collision agree p (take (n - c) (drop c bytes)) → Collision agree p (drop c (take n bytes))
    collision n l k = rw (drop-take c n bytes (omega arith) begun) k

    pub claim-since : ClaimSince agree p bytes c answers
    claim-since =
        record {
          rings-since = λ s n l h r. (rung s n l h r).0;
          asides-since = λ s n l h d. (aside s n l h d).0;
          found =
              λ s l o.
              elim (q.found (s - c) (occurrence-down c p bytes s l long o)) [
                | inl r ↦
                    inl (rw (same (s + length p) (omega arith) o.inside)
                    (ring-up c s (own (s + length p - c)) l (subst (λ (n : ℕ). Rings (own n) (s - c)) (omega arith) r)))
                | inr d ↦
                    let k : c + d.0 ≤ length bytes = omega (arith, o.inside, d.2) in
                    inr (
                      c + d.0,
                      omega (arith, d.1),
                      omega (arith, d.2),
                      rw (same (c + d.0) (omega (arith, d.1)) k)
                          (aside_up c s (own (c + d.0 - c)) l (subst (λ (n : ℕ). SetsAside (own n) (s - c)) (omega arith) d.3)),
                    )
              ];
          not-both =
              λ s n n' l h l' h' r d.
              q.not-both (s - c) (n - c) (n' - c) (within n h) (within n' h') (rung s n l h r).1 (aside s n' l' h' d).1;
          rung-once =
              λ s n n' l h l' h' r r'.
              omega (
                arith,
                q.rung-once (s - c) (n - c) (n' - c) (within n h) (within n' h') (rung s n l h r).1 (rung s n' l' h' r').1,
              );
          aside-once =
              λ s n n' l h l' h' d d'.
              omega (
                arith,
                q.aside-once (s - c) (n - c) (n' - c) (within n h) (within n' h') (aside s n l h d).1 (aside s n' l' h' d').1,
              );
          aside-in-one-set =
              λ s n l h.
              rw (same n l h)
              (elim (dec_le c s) [
                | yes k ↦ rw (times-up c s (own (n - c)) k) (q.aside-in-one-set (s - c) (n - c) (within n h))
                | no k ↦ omega (arith, times-out c s (own (n - c)) (omega arith))
              ]);
          false-ring =
              λ s n l h r f.
              collision n l
              (q.false-ring (s - c) (n - c) (within n h) (rung s n l h r).1
              (λ o. f (occurrence-up c p bytes s (rung s n l h r).0 begun o.0, omega (arith, o.1, (rung s n l h r).0))));
          aside-collides =
              λ n l h f.
              collision n l
              (q.aside-collides (n - c) (within n h) (λ e. f (ap (λ (a : ladder.Answer). a.aside) (same n l h) ∙ rw e)));
          ceiling = λ n l h. rw (same n l h) (q.ceiling (n - c) (within n h));
        }
