-- What it says of a rack that it is no misfit, place by place.
-- Assumes nothing.
use Prim.Native.Nat.{ℕ, ◌≤◌, ◌<◌}
use mathlib.Core.Path.{◌≡◌}
use mathlib.Core.Bool.{true, false}
use mathlib.Core.List.{[], ◌∷◌}
use lib.Dec.{leb}
use borrow.Author.Tests.{leb-true, le-leb}
use Rattle.fingerprint.specs.declared.Key.{Key}
use Rattle.fingerprint.specs.Fingerprint.{key_fits, same_key}
use Rattle.fingerprint.proofs.Laws.{same-key-eq}
use Rattle.lists.proofs.Laws.{every-at, every-intro}
use Rattle.lists.proofs.Cases.{by-test, each}
use Rattle.signature.specs.Signature.{signature_fits}
use Rattle.stage.specs.Stage.{now_fits}
use Rattle.stage.specs.Stages.{stages_fit}
use Rattle.stage.proofs.Now.{SoundNow, sound-now, now-fits}
use Rattle.rack_place.specs.declared.Place.{Place}
use Rattle.rack.specs.declared.Rack.{Rack}
use Rattle.rack.specs.Rack.{
  rack_places,
  is_free,
  is_clear,
  all_from,
  used_fits,
  place_fits,
  apart,
  places_fit,
  names_apart,
  place_at,
  rack_fits,
}

-- What a place with a card says of itself.
pub record SoundPlace (key : Key) (t : ℕ) (p : Place) : Type 0 where
  pub card : signature_fits p.signature ≡ true
  pub keyed : same_key p.signature.key key ≡ true
  pub since : p.since ≤ t
  pub stages : stages_fit p.signature.key p.signature.length t p.stages ≡ true
  pub from : all_from p.since p.stages ≡ true

-- What a rack that is no misfit says of itself.
pub record SoundRack (r : Rack) : Type 0 where
  pub key : key_fits r.key ≡ true
  pub now : SoundNow r.now
  pub free : (i : ℕ) → i < rack_places → is_free (place_at r i) ≡ true → is_clear (place_at r i) ≡ true
  pub used : (i : ℕ) → i < rack_places → is_free (place_at r i) ≡ false → SoundPlace r.key r.now.at (place_at r i)
  pub apart : (i j : ℕ) → j < i → i < rack_places → apart (place_at r i) (place_at r j) ≡ true

-- The rack's key is that of each card in it.
pub one_key : {key : Key} {t : ℕ} {p : Place} → SoundPlace key t p → p.signature.key ≡ key
one_key q = same-key-eq _ _ q.keyed

-- No two places with a card have one name.
pub names_apart_lem : (r : Rack) → SoundRack r → names_apart r.places ≡ true
names_apart_lem r q = every-intro _ rack_places (λ i l. every-intro _ i (λ j b. q.apart i j b l))

module _ (key : Key) (t : ℕ) (p : Place) where
  sound-place : used_fits key t p ≡ true → SoundPlace key t p
  unfolding used_fits
  sound-place e =
      let q =
      each (signature_fits p.signature)
      (same_key p.signature.key key
      ∷ leb p.since t
      ∷ stages_fit p.signature.key p.signature.length t p.stages
      ∷ all_from p.since p.stages
      ∷ [])
      e
      in
      record {
        card = q.0;
        keyed = q.1.0;
        since = leb-true _ _ q.1.1.0;
        stages = q.1.1.1.0;
        from = q.1.1.1.1.0;
      }

  place-sound : SoundPlace key t p → used_fits key t p ≡ true
  unfolding used_fits
  place-sound q = rw (q.card, q.keyed, le-leb p.since t q.since, q.stages, q.from)

pub sound-rack : (r : Rack) → rack_fits r ≡ true → SoundRack r
unfolding rack_fits
sound-rack r e =
    let q =
    each (key_fits r.key)
    (now_fits r.now ∷ places_fit r.key r.now.at r.places ∷ names_apart r.places ∷ [])
    e
    in
    let place : (i : ℕ) → i < rack_places → place_fits r.key r.now.at (place_at r i) ≡ true = every-at _ rack_places q.1.1.0 in
    record {
      key = q.0;
      now = sound-now _ q.1.0;
      free = λ i l f. rw f at (place i l);
      used = λ i l f. sound-place r.key r.now.at (place_at r i) (rw f at (place i l));
      apart = λ i j b l. every-at _ i (every-at _ rack_places q.1.1.1.0 i l) j b;
    }

pub rack-sound : (r : Rack) → SoundRack r → rack_fits r ≡ true
unfolding rack_fits
rack-sound r q =
    let place : (i : ℕ) → i < rack_places → place_fits r.key r.now.at (place_at r i) ≡ true =
    λ i l.
    by-test (is_free (place_at r i)) (λ f. rw f (q.free i l f))
    (λ f. rw f (place-sound r.key r.now.at (place_at r i) (q.used i l f)))
    in
    rw (q.key, now-fits _ q.now, every-intro _ rack_places place, names_apart_lem r q)
