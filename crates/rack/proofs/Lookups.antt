-- Looking a name up in a rack's places: it is in where a place has it, and names that are apart have one place each.
-- Assumes nothing.
use Prim.Native.Nat.{ℕ, zero, suc, ◌+◌, ◌≤◌, ◌<◌}
use mathlib.Core.Path.{◌≡◌, refl, sym, ◌∙◌}
use mathlib.Core.Bool.{Bool, true, false, not, true≢false}
use mathlib.Core.List.{List}
use native.Mathlib.Decide.{dec_lt, ℕ_discrete}
use native.Mathlib.Omega.{arith}
use lib.Dec.{ltb}
use lib.ListN.{get_or}
use borrow.Author.Tests.{ltb-true, lt-ltb, eqb-true, eq-eqb, ne_eqb, not-true}
use Rattle.lists.proofs.Laws.{and_left, and_right, every-at}
use Rattle.lists.proofs.Cases.{by-test}
use Rattle.std.specs.Prelude.{Option, None, Some}
use Rattle.std.specs.Option.{is_some}
use Rattle.rack_place.specs.declared.Place.{Place}
use Rattle.rack_place.specs.Place.{in_rack}
use Rattle.rack.specs.Rack.{rack_places, nowhere, is_free, apart, names_apart, has_name, first_place, place_of, free_place, is_in, place_named}

-- What is found in a rack: whether something is, and where.
pub in-rack-some : (x : ℕ) → is_some (in_rack x) ≡ ltb x rack_places
in-rack-some x = by-test (ltb x rack_places) (λ e. rw e) (λ e. rw e)

pub in-rack-at : (x : ℕ) {i : ℕ} → Some i ≡ in_rack x → (i ≡ x) × (ltb x rack_places ≡ true)
in-rack-at x {i} e =
    by-test (ltb x rack_places) (λ f. (let g : ◌≡◌ {A = Option ℕ} (Some i) (Some x) = rw f at e in cc, f))
    (λ f. absurd (let g : ◌≡◌ {A = Option ℕ} (Some i) None = rw f at e in cc))

-- Whether a place has a card under a name.
module _ (name : ℕ) (p : Place) where
  pub named-used : has_name name p ≡ true → is_free p ≡ false
  named-used e = not-true _ (and_left _ _ e)

  pub named-name : has_name name p ≡ true → p.name ≡ name
  named-name e = eqb-true _ _ (and_right (not (is_free p)) _ e)

  pub used-named : is_free p ≡ false → p.name ≡ name → has_name name p ≡ true
  used-named f e = rw (f, eq-eqb p.name name e)

  pub free-unnamed : is_free p ≡ true → has_name name p ≡ false
  free-unnamed f = rw f

  pub other-unnamed : (p.name ≡ name → ⊥) → has_name name p ≡ false
  other-unnamed n = by-test (is_free p) (λ f. rw f) (λ f. rw (f, ne_eqb p.name name n))

-- Two places that are apart do not both have it.
pub apart-unnamed : (name : ℕ) (p q : Place) → apart p q ≡ true → has_name name p ≡ true → has_name name q ≡ true → ⊥
apart-unnamed name p q a e f =
    true≢false
    (sym a
    ∙ rw (named-used name p e, named-used name q f, eq-eqb p.name q.name (named-name name p e ∙ sym (named-name name q f))))

-- The first place that passes a test, of n from i on.
pub record First (test : Place → Bool) (places : List Place) (n i x : ℕ) : Type 0 where
  pub from : i ≤ x
  pub most : x ≤ i + n
  pub passes : x < i + n → test (get_or places x nowhere) ≡ true
  pub before : (j : ℕ) → i ≤ j → j < x → test (get_or places j nowhere) ≡ false

pub first-place : (test : Place → Bool) (places : List Place) (n i : ℕ) → First test places n i (first_place test places n i)
unfolding first_place
first-place test places zero i =
    record { from = omega arith; most = omega arith; passes = λ l. absurd (omega arith); before = λ j l b. absurd (omega arith) }
first-place test places (suc n) i =
    by-test (test (get_or places i nowhere))
    (λ e.
    rw (e, first_place)
    (record { from = omega arith; most = omega arith; passes = λ l. e; before = λ j l b. absurd (omega arith) }))
    (λ e.
    let q = first-place test places n (suc i) in
    rw (e, first_place)
    (record {
      from = omega (arith, q.from);
      most = omega (arith, q.most);
      passes = λ l. q.passes (omega arith);
      before =
          λ j l b. elim (ℕ_discrete j i) [ yes d ↦ rw d e | no d ↦ q.before j (omega arith) b ];
    }))

-- Where the places pass alike, the first one is the same.
pub first-same :
    (test : Place → Bool) (places others : List Place) (n i : ℕ)
    → ((j : ℕ) → i ≤ j → j < i + n → test (get_or places j nowhere) ≡ test (get_or others j nowhere))
    → first_place test places n i ≡ first_place test others n i
unfolding first_place
first-same test places others zero i h = refl
first-same test places others (suc n) i h =
    rw (h i (omega arith) (omega arith), first-same test places others n (suc i) (λ j l b. h j (omega arith) (omega arith)))

-- A free place is found where there is one.
module _ (places : List Place) where
  first-free : First is_free places rack_places 0 (free_place places)
  first-free = first-place is_free places rack_places 0

  pub free-found : free_place places < rack_places → is_free (get_or places (free_place places) nowhere) ≡ true
  free-found l = first-free.passes l

  pub free-before : (i : ℕ) → i < free_place places → is_free (get_or places i nowhere) ≡ false
  free-before i l = first-free.before i (omega arith) l

-- Whether one of the first n places has a name.
module _ (name : ℕ) (places : List Place) (n : ℕ) where
  abbrev found : ℕ
  found = first_place (has_name name) places n 0

  abbrev pub among : Bool
  among = ltb found n

  first : First (has_name name) places n 0 found
  first = first-place (has_name name) places n 0

  pub among-place : among ≡ true → (found < n) × (has_name name (get_or places found nowhere) ≡ true)
  among-place e = let l : found < n = ltb-true _ _ e in (l, first.passes (omega arith))

  pub among-at : (i : ℕ) → i < n → has_name name (get_or places i nowhere) ≡ true → among ≡ true
  among-at i l e =
      elim (dec_lt found n) [
        | yes h ↦ lt-ltb _ _ h
        | no h ↦ absurd (true≢false (sym e ∙ first.before i (omega arith) (omega arith)))
      ]

  pub among_none : ((i : ℕ) → i < n → has_name name (get_or places i nowhere) ≡ false) → among ≡ false
  among_none h =
      by-test among (λ e. let q = among-place e in absurd (true≢false (sym q.1 ∙ h found q.0))) (λ e. e)

  pub none-among : among ≡ false → (i : ℕ) → i < n → has_name name (get_or places i nowhere) ≡ false
  none-among e i l =
      by-test (has_name name (get_or places i nowhere)) (λ f. absurd (true≢false (sym (among-at i l f) ∙ e))) (λ f. f)

module _ (name : ℕ) (places : List Place) where
  pub in_place : is_in name places ≡ true → (place_of name places < rack_places) × (has_name name (place_named name places) ≡ true)
  in_place = among-place name places rack_places

  pub place_in : (i : ℕ) → i < rack_places → has_name name (get_or places i nowhere) ≡ true → is_in name places ≡ true
  place_in = among-at name places rack_places

  -- a name that is not in is at no place, and one that is at no place is not in
  pub out-place : is_in name places ≡ false → (i : ℕ) → i < rack_places → has_name name (get_or places i nowhere) ≡ false
  out-place = none-among name places rack_places

  pub place_out : ((i : ℕ) → i < rack_places → has_name name (get_or places i nowhere) ≡ false) → is_in name places ≡ false
  place_out = among_none name places rack_places

  -- the one place that has it is the place of the name
  pub sole-place :
      (i : ℕ)
      → i < rack_places
      → has_name name (get_or places i nowhere) ≡ true
      → ((j : ℕ) → j < rack_places → (j ≡ i → ⊥) → has_name name (get_or places j nowhere) ≡ false)
      → place_of name places ≡ i
  sole-place i l e h =
      let q = in_place (place_in i l e) in
      elim (ℕ_discrete (place_of name places) i) [
        | yes d ↦ d
        | no n ↦ absurd (true≢false (sym q.1 ∙ h (place_of name places) q.0 n))
      ]

  -- Names that are apart have one place each.
  pub apart-others :
      names_apart places ≡ true
      → (i : ℕ)
      → i < rack_places
      → has_name name (get_or places i nowhere) ≡ true
      → (j : ℕ)
      → j < rack_places
      → (j ≡ i → ⊥)
      → has_name name (get_or places j nowhere) ≡ false
  apart-others a i l e j b n =
      let differ : (i j : ℕ) → j < i → i < rack_places → apart (get_or places i nowhere) (get_or places j nowhere) ≡ true =
      λ i j b l. every-at _ i (every-at _ rack_places a i l) j b
      in
      by-test (has_name name (get_or places j nowhere))
      (λ f.
      elim (dec_lt j i) [
        | yes h ↦ absurd (apart-unnamed name (get_or places i nowhere) (get_or places j nowhere) (differ i j h l) e f)
        | no h ↦ absurd (apart-unnamed name (get_or places j nowhere) (get_or places i nowhere) (differ j i (omega arith) b) f e)
      ])
      (λ f. f)

  pub only-place :
      names_apart places ≡ true
      → (i : ℕ)
      → i < rack_places
      → has_name name (get_or places i nowhere) ≡ true
      → place_of name places ≡ i
  only-place a i l e = sole-place i l e (apart-others a i l e)
