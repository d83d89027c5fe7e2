-- What a rack's calls do to its places: which names are in, and what each of them has.
-- Assumes nothing.
use Prim.Native.Nat.{ℕ, ◌<◌}
use mathlib.Core.Path.{◌≡◌, refl, sym, ◌∙◌, ap}
use mathlib.Core.Bool.{Bool, true, false, cond, true≢false}
use mathlib.Core.List.{List}
use native.Mathlib.Decide.{ℕ_discrete}
use native.Mathlib.Omega.{arith}
use lib.Dec.{ltb, eqb}
use lib.ListN.{length, get_or, set}
use lib.Seq.{get_or-set_same, get_or-set_other}
use borrow.Author.Tests.{eq-eqb, ne_eqb}
use Rattle.lists.proofs.Laws.{get_d_tabulate}
use Rattle.lists.proofs.Cases.{by-test}
use Rattle.signature.specs.declared.Signature.{Signature}
use Rattle.signature.proofs.Card.{sound-card}
use Rattle.stage.specs.declared.Mark.{Mark}
use Rattle.rack_place.specs.declared.Place.{Place}
use Rattle.rack.specs.declared.Rack.{Rack}
use Rattle.rack.specs.Rack.{
  rack_places,
  no_place,
  nowhere,
  is_free,
  has_name,
  place_of,
  free_place,
  is_in,
  place_named,
  place_at,
  put_in_refusal,
  put_in,
  take_out_refusal,
  taken_out,
  rack_stroke_refusal,
  struck_place,
  struck_places,
  after_rack_stroke,
}
use Rattle.rack_run.specs.AnyRack.{Typed}
use Rattle.rack_run.proofs.Sound.{sound-rack, names_apart_lem}
use Rattle.rack.proofs.Lookups.{
  named-name,
  used-named,
  free-unnamed,
  other-unnamed,
  first-same,
  free-found,
  in_place,
  place_in,
  out-place,
  place_out,
  sole-place,
  apart-others,
}
use Rattle.rack_run.proofs.Accepted.{newcomer, puts-in, after-put-in, takes_out, after-take-out, after-struck}

-- Another place at number i.
module _ (places : List Place) (size : length places ≡ rack_places) (i : ℕ) (small : i < rack_places) (p : Place) where
  abbrev others : List Place
  others = set places i p

  pub set_here : get_or others i nowhere ≡ p
  set_here = get_or-set_same places i p nowhere (omega arith)

  pub set_there : (j : ℕ) → (j ≡ i → ⊥) → get_or others j nowhere ≡ get_or places j nowhere
  set_there j n = get_or-set_other places i j p nowhere n

  -- a name that the place has neither before nor behind is where it was
  set_other :
      (name : ℕ)
      → has_name name (get_or places i nowhere) ≡ false
      → has_name name p ≡ false
      → place_of name others ≡ place_of name places
  set_other name before behind =
      first-same (has_name name) others places rack_places 0
      (λ j _ l.
      elim (ℕ_discrete j i) [
        | yes e ↦ rw (e, set_here) (behind ∙ sym before)
        | no n ↦ ap (has_name name) (set_there j n)
      ])

  -- and has what it had
  set-other-place :
      (name : ℕ)
      → has_name name (get_or places i nowhere) ≡ false
      → has_name name p ≡ false
      → is_in name places ≡ true
      → place_named name others ≡ place_named name places
  set-other-place name before behind e =
      ap (λ (j : ℕ). get_or others j nowhere) (set_other name before behind)
      ∙ set_there (place_of name places)
      (λ d. true≢false (sym (in_place name places e).1 ∙ ap (λ (j : ℕ). has_name name (get_or places j nowhere)) d ∙ before))

-- what is true of the one name, and otherwise as it was
by_name : (n name : ℕ) (a b c : Bool) → (n ≡ name → a ≡ b) → ((n ≡ name → ⊥) → a ≡ c) → a ≡ cond (eqb n name) b c
by_name n name a b c same other =
    elim (ℕ_discrete n name) [
      | yes e ↦ rw (eq-eqb n name e) (same e)
      | no e ↦ rw (ne_eqb n name e) (other e)
    ]

-- Putting a card in: the name is in, with its card and nothing listed, and others are as they were.
module _ (r : Rack) (name : ℕ) (card : Signature) (typed : Typed r) (ok : put_in_refusal r name card ≡ 0) where
  abbrev free : ℕ
  free = free_place r.places

  abbrev new : Place
  new = newcomer r name card

  abbrev with-new : List Place
  with-new = set r.places free new

  was_free : is_free (place_at r free) ≡ true
  was_free = free-found r.places (puts-in r name card ok).room

  pub new-used : is_free new ≡ false
  new-used = ne_eqb card.length 0 (omega (arith, (sound-card card (puts-in r name card ok).card-fits).long))

  new-here : get_or with-new free nowhere ≡ new
  new-here = set_here r.places typed.size free (puts-in r name card ok).room new

  new-named : has_name name (get_or with-new free nowhere) ≡ true
  new-named = rw new-here (used-named name new new-used refl)

  new-place : place_of name with-new ≡ free
  new-place =
      sole-place name with-new free (puts-in r name card ok).room new-named
      (λ j l n.
      rw (set_there r.places typed.size free (puts-in r name card ok).room new j n)
      (out-place name r.places (puts-in r name card ok).out j l))

  pub put-in-others : (n : ℕ) → is_in n (put_in r name card).places ≡ cond (eqb n name) true (is_in n r.places)
  put-in-others n =
      rw (after-put-in r name card ok)
      (by_name n name (is_in n with-new) true (is_in n r.places)
      (λ e. rw e (place_in name with-new free (puts-in r name card ok).room new-named))
      (λ e.
      ap (λ (j : ℕ). ltb j rack_places)
      (set_other r.places typed.size free (puts-in r name card ok).room new n (free-unnamed n (place_at r free) was_free)
      (other-unnamed n new (λ d. e (sym d))))))

  pub put_in_place : place_named name (put_in r name card).places ≡ new
  put_in_place = rw (after-put-in r name card ok) (ap (λ (j : ℕ). get_or with-new j nowhere) new-place ∙ new-here)

  pub put-in-other-place :
      (n : ℕ) → (n ≡ name → ⊥) → is_in n r.places ≡ true → place_named n (put_in r name card).places ≡ place_named n r.places
  put-in-other-place n e l =
      rw (after-put-in r name card ok)
      (set-other-place r.places typed.size free (puts-in r name card ok).room new n (free-unnamed n (place_at r free) was_free)
      (other-unnamed n new (λ d. e (sym d))) l)

-- Taking a name out: it is out, and others are as they were.
module _ (r : Rack) (name : ℕ) (typed : Typed r) (ok : take_out_refusal r name ≡ 0) where
  abbrev place : ℕ
  place = place_of name r.places

  abbrev without : List Place
  without = set r.places place no_place

  there : (place < rack_places) × (has_name name (place_named name r.places) ≡ true)
  there = in_place name r.places (takes_out r name ok).there

  other-before : (n : ℕ) → (n ≡ name → ⊥) → has_name n (place_at r place) ≡ false
  other-before n e = other-unnamed n (place_at r place) (λ d. e (sym d ∙ named-name name (place_at r place) there.1))

  none_left : is_in name without ≡ false
  none_left =
      place_out name without
      (λ j l.
      elim (ℕ_discrete j place) [
        | yes e ↦ rw (e, set_here r.places typed.size place there.0 no_place)
        | no n ↦
            rw (set_there r.places typed.size place there.0 no_place j n)
            (apart-others name r.places (names_apart_lem r (sound-rack r (takes_out r name ok).fits)) place there.0 there.1 j l n)
      ])

  pub take-out-others : (n : ℕ) → is_in n (taken_out r name).places ≡ cond (eqb n name) false (is_in n r.places)
  take-out-others n =
      rw (after-take-out r name ok)
      (by_name n name (is_in n without) false (is_in n r.places)
      (λ e. rw e none_left)
      (λ e.
      ap (λ (j : ℕ). ltb j rack_places)
      (set_other r.places typed.size place there.0 no_place n (other-before n e) (free-unnamed n no_place refl))))

  pub take-out-other-place :
      (n : ℕ) → (n ≡ name → ⊥) → is_in n r.places ≡ true → place_named n (taken_out r name).places ≡ place_named n r.places
  take-out-other-place n e l =
      rw (after-take-out r name ok)
      (set-other-place r.places typed.size place there.0 no_place n (other-before n e) (free-unnamed n no_place refl) l)

-- A stroke: each name keeps its place, and what is there has taken the byte.
pub struck-none : (now : Mark) (byte : ℕ) (p : Place) → is_free p ≡ true → struck_place now byte p ≡ p
unfolding struck_place
struck-none now byte p e = rw e

pub struck-free : (now : Mark) (byte : ℕ) (p : Place) → is_free (struck_place now byte p) ≡ is_free p
unfolding struck_place
struck-free now byte p = by-test (is_free p) (λ e. rw (e, struck_place) e) (λ e. rw (e, struck_place) e)

pub struck-name : (now : Mark) (byte : ℕ) (p : Place) → (struck_place now byte p).name ≡ p.name
unfolding struck_place
struck-name now byte p = by-test (is_free p) (λ e. rw (e, struck_place)) (λ e. rw (e, struck_place))

pub struck-at :
    (now : Mark) (byte : ℕ) (places : List Place) (i : ℕ)
    → i < rack_places
    → get_or (struck_places now byte places) i nowhere ≡ struck_place now byte (get_or places i nowhere)
struck-at now byte places i l = get_d_tabulate (λ i. struck_place now byte (get_or places i nowhere)) rack_places i nowhere l

module _ (r : Rack) (byte : ℕ) (ok : rack_stroke_refusal r ≡ 0) where
  abbrev struck : List Place
  struck = struck_places r.now byte r.places

  same_place : (n : ℕ) → place_of n struck ≡ place_of n r.places
  same_place n =
      first-same (has_name n) struck r.places rack_places 0
      (λ j _ l.
      let p : Place = place_at r j in
      rw (struck-at r.now byte r.places j l, struck-free r.now byte p, struck-name r.now byte p))

  pub struck-in : (n : ℕ) → is_in n (after_rack_stroke r byte).places ≡ is_in n r.places
  struck-in n = rw (after-struck r ok byte) (ap (λ (j : ℕ). ltb j rack_places) (same_place n))

  pub struck-place :
      (n : ℕ)
      → is_in n r.places ≡ true
      → place_named n (after_rack_stroke r byte).places ≡ struck_place r.now byte (place_named n r.places)
  struck-place n e =
      rw (after-struck r ok byte)
      (ap (λ (j : ℕ). get_or struck j nowhere) (same_place n)
      ∙ struck-at r.now byte r.places (place_of n r.places) (in_place n r.places e).0)
