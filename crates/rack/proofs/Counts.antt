-- How many cards are in places: as many as there are names in them, and fewer than 16 where a place is free.
-- Assumes nothing.
use Prim.Native.Nat.{ℕ, zero, suc, ◌≤◌, ◌<◌}
use mathlib.Core.Path.{◌≡◌, refl, sym, ◌∙◌, ap}
use mathlib.Core.Bool.{true, false, true≢false}
use mathlib.Core.List.{List}
use native.Mathlib.Decide.{dec_lt, ℕ_discrete}
use native.Mathlib.Omega.{arith}
use lib.Dec.{ltb}
use lib.ListN.{length, get_or}
use borrow.Author.Tests.{lt-ltb, le-ltb}
use Rattle.lists.specs.Lists.{chosen}
use Rattle.lists.proofs.Choices.{chosen-same, chosen_none, chosen-one-more}
use Rattle.lists.proofs.Cases.{by-test}
use Rattle.rack_place.specs.declared.Place.{Place}
use Rattle.rack.specs.Rack.{rack_places, nowhere, is_free, apart, has_name, free_place, cards_below, cards_in}
use Rattle.rack.proofs.Lookups.{
  used-named,
  free-unnamed,
  other-unnamed,
  apart-unnamed,
  free-found,
  free-before,
  among,
  among-place,
  among-at,
  among_none,
  none-among,
}

module _ (places : List Place) where
  abbrev at : ℕ → Place
  at i = get_or places i nowhere

  free_one : (i : ℕ) → is_free (at i) ≡ true → cards_below places (suc i) ≡ cards_below places i
  unfolding cards_below
  free_one i e = rw e

  used-one : (i : ℕ) → is_free (at i) ≡ false → cards_below places (suc i) ≡ suc (cards_below places i)
  unfolding cards_below
  used-one i e = rw e

  no-cards : cards_below places 0 ≡ 0
  unfolding cards_below
  no-cards = refl

  pub cards-most : (n : ℕ) → cards_below places n ≤ n
  cards-most zero = omega (arith, no-cards)
  cards-most (suc n) =
      by-test (is_free (at n)) (λ e. omega (arith, free_one n e, cards-most n)) (λ e. omega (arith, used-one n e, cards-most n))

  -- a free place is one card fewer
  cards-fewer : (n i : ℕ) → i < n → is_free (at i) ≡ true → cards_below places n < n
  cards-fewer zero i l e = absurd (omega arith)
  cards-fewer (suc n) i l e =
      by-test (is_free (at n)) (λ f. omega (arith, free_one n f, cards-most n))
      (λ f.
      elim (ℕ_discrete i n) [
        | yes d ↦ absurd (true≢false (sym e ∙ ap (λ (j : ℕ). is_free (at j)) d ∙ f))
        | no d ↦ omega (arith, used-one n f, cards-fewer n i (omega arith) e)
      ])

  cards-all : (n : ℕ) → ((i : ℕ) → i < n → is_free (at i) ≡ false) → cards_below places n ≡ n
  cards-all zero h = no-cards
  cards-all (suc n) h = used-one n (h n (omega arith)) ∙ ap suc (cards-all n (λ i l. h i (omega arith)))

  -- A place is free where fewer than 16 cards are in.
  pub free-where : ltb (free_place places) rack_places ≡ ltb (cards_in places) rack_places
  free-where =
      elim (dec_lt (free_place places) rack_places) [
        | yes l ↦ lt-ltb _ _ l ∙ sym (lt-ltb _ _ (cards-fewer rack_places (free_place places) l (free-found places l)))
        | no l ↦
            le-ltb (free_place places) rack_places (omega arith)
            ∙ sym (le-ltb (cards_in places) rack_places (omega (arith, cards-all rack_places (λ i b. free-before places i (omega arith)))))
      ]

  -- one place more that has a name not
  among-more : (n name : ℕ) → has_name name (at n) ≡ false → among name places (suc n) ≡ among name places n
  among-more n name h =
      by-test (among name places n)
      (λ e. let q = among-place name places n e in rw e (among-at name places (suc n) _ (omega (arith, q.0)) q.1))
      (λ e.
      rw e
      (among_none name places (suc n)
      (λ i l. elim (ℕ_discrete i n) [ yes d ↦ rw d h | no d ↦ none-among name places n e i (omega arith) ])))

  -- Of the first n places, as many have a card as there are names among them.
  module _ (count : ℕ) where
    abbrev names : ℕ → List ℕ
    names n = chosen (λ name. among name places n) 0 count

    pub names-among :
        (n : ℕ)
        → ((i : ℕ) → i < n → (at i).name < count)
        → ((i j : ℕ) → j < i → i < n → apart (at i) (at j) ≡ true)
        → length (names n) ≡ cards_below places n
    names-among zero small differ =
        ap length (chosen_none _ 0 count (λ i _ _. among_none i places 0 (λ j l. absurd (omega arith)))) ∙ sym no-cards
    names-among (suc n) small differ =
        let before : length (names n) ≡ cards_below places n =
        names-among n (λ i l. small i (omega arith)) (λ i j b l. differ i j b (omega arith))
        in
        by-test (is_free (at n))
        (λ e.
        ap length (chosen-same _ _ 0 count (λ name _ _. among-more n name (free-unnamed name (at n) e))) ∙ before ∙ sym (free_one n e))
        (λ e.
        let name : ℕ = (at n).name in
        let has : has_name name (at n) ≡ true = used-named name (at n) e refl in
        chosen-one-more (λ x. among x places n) (λ x. among x places (suc n)) 0 count name (omega arith)
        (omega (arith, small n (omega arith)))
        (among_none name places n
        (λ i l.
        by-test (has_name name (at i)) (λ f. absurd (apart-unnamed name (at n) (at i) (differ n i l (omega arith)) has f)) (λ f. f)))
        (among-at name places (suc n) n (omega arith) has)
        (λ other d. among-more n other (other-unnamed other (at n) (λ q. d (sym q))))
        ∙ ap suc before
        ∙ sym (used-one n e))
