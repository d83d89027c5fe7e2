-- A rack that was begun with a key within limits is no misfit.
-- Assumes nothing.
use Prim.Native.Nat.{ℕ, ◌<◌}
use mathlib.Core.Path.{◌≡◌, refl, sym, ◌∙◌, ap}
use mathlib.Core.Bool.{true, true≢false}
use native.Mathlib.Omega.{arith}
use lib.ListN.{length-replicate, get_or-replicate}
use Rattle.fingerprint.specs.declared.Key.{Key}
use Rattle.fingerprint.specs.Fingerprint.{key_fits, no_key, empty}
use Rattle.fingerprint.proofs.Laws.{same_self, same-key-self, empty-below}
use Rattle.lists.proofs.Laws.{every-intro}
use Rattle.lists.proofs.Cases.{by-test}
use Rattle.signature.specs.Signature.{places, no_signature}
use Rattle.stage.specs.Stage.{none_fits}
use Rattle.stage.specs.Stages.{stage_count, no_stages}
use Rattle.stage.proofs.Stages.{no-stage-at}
use Rattle.rack_place.specs.Place.{clear_prints, clear_stages}
use Rattle.rack.specs.Rack.{
  rack_places,
  no_place,
  nowhere,
  is_free,
  is_clear,
  place_at,
  rack_fits,
  rack_begun,
  empty_rack,
}
use Rattle.rack_run.specs.AnyRack.{Typed}
use Rattle.rack_run.proofs.Sound.{SoundRack, rack-sound}

-- The place that has no card.
none-printed : clear_prints no_signature.prints ≡ true
none-printed = every-intro _ places (λ i l. rw (get_or-replicate places i empty empty l) (same_self empty))

none-listed : clear_stages no_stages ≡ true
unfolding none_fits
none-listed = every-intro _ stage_count (λ i l. rw (no-stage-at i) (rw (same_self empty)))

pub clear_none : is_clear no_place ≡ true
unfolding is_clear
clear_none = rw (same-key-self no_key, none-printed, none-listed)

-- A rack begun with a key.
module _ (key : Key) where
  begun-at : (i : ℕ) → i < rack_places → place_at (empty_rack key) i ≡ no_place
  begun-at i l = get_or-replicate rack_places i no_place nowhere l

  empty-typed : Typed (empty_rack key)
  empty-typed = record { size = length-replicate rack_places no_place; names = λ i l. rw (begun-at i l) (omega arith) }

  empty-sound : key_fits key ≡ true → SoundRack (empty_rack key)
  empty-sound e =
      record {
        key = e;
        now = record { within = omega arith; print = empty-below; starts = λ z. refl };
        free = λ i l f. rw (begun-at i l) clear_none;
        used = λ i l f. absurd (true≢false (sym (ap is_free (begun-at i l)) ∙ f));
        apart = λ i j b l. rw (begun-at i l);
      }

pub begun-typed : (key : Key) → Typed (rack_begun key)
unfolding rack_begun
begun-typed key =
    by-test (key_fits key) (λ e. rw (e, rack_begun) (empty-typed key)) (λ e. rw (e, rack_begun) (empty-typed no_key))

pub begun-fits : (key : Key) → key_fits key ≡ true → rack_fits (rack_begun key) ≡ true
unfolding rack_begun
begun-fits key e = rw (e, rack_begun) (rack-sound (empty_rack key) (empty-sound key e))
