-- A rack that is no misfit is none after any call.
-- Assumes nothing.
use Prim.Native.Nat.{ℕ, ◌<◌}
use mathlib.Core.Path.{◌≡◌, sym, ◌∙◌}
use mathlib.Core.Bool.{true, false, true≢false}
use native.Mathlib.Decide.{ℕ_discrete}
use native.Mathlib.Omega.{arith}
use lib.ListN.{length-set}
use borrow.Author.Tests.{ne_eqb}
use Rattle.fingerprint.proofs.Laws.{pushed-below}
use Rattle.lists.proofs.Laws.{every-intro, length-tabulate}
use Rattle.lists.proofs.Cases.{by-test}
use Rattle.signature.specs.declared.Signature.{Signature}
use Rattle.stage.specs.Stage.{max_taken}
use Rattle.stage.specs.Stages.{stage_count}
use Rattle.stage.proofs.Fit.{idle}
use Rattle.stage.proofs.Follows.{stage-fits, follows-none}
use Rattle.stage.proofs.Stages.{no-stage-at}
use Rattle.rack_place.specs.declared.Place.{Place}
use Rattle.rack.specs.declared.Rack.{Rack}
use Rattle.rack.specs.Rack.{
  rack_places,
  name_count,
  no_place,
  is_free,
  is_clear,
  apart,
  free_place,
  place_of,
  place_at,
  rack_fits,
  put_in_refusal,
  take_out_refusal,
  rack_stroke_refusal,
  put_in,
  taken_out,
  after_rack_stroke,
}
use Rattle.rack_run.specs.Calls.{Call, put-in, take_out, stroke, Possible, rack_after}
use Rattle.rack_run.specs.AnyRack.{Typed}
use Rattle.rack_run.proofs.Sound.{SoundPlace, SoundRack, sound-rack, rack-sound}
use Rattle.rack_run.proofs.Accepted.{
  with_place,
  newcomer,
  puts-in,
  after-put-in,
  put-in-case,
  takes_out,
  after-take-out,
  take-out-case,
  struck_rack,
  strikes,
  after-struck,
  struck-case,
}
use Rattle.rack.proofs.Lookups.{used-named, in_place, out-place}
use Rattle.rack_run.proofs.Places.{set_here, set_there, new-used, struck-none, struck-free, struck-name, struck-at}
use Rattle.rack_run.proofs.Watches.{struck-sound}
use Rattle.rack_run.proofs.From.{all_none}
use Rattle.rack_run.proofs.Begun.{clear_none}

-- Two places are apart unless both have a card under one name.
apart-unless : (p q : Place) → (is_free p ≡ false → is_free q ≡ false → p.name ≡ q.name → ⊥) → apart p q ≡ true
apart-unless p q h =
    by-test (is_free p) (λ e. rw e)
    (λ e. by-test (is_free q) (λ f. rw (e, f)) (λ f. rw (e, f, ne_eqb p.name q.name (h e f))))

-- Another place that is sound by itself and apart from the others.
module _ (r : Rack) (typed : Typed r) (i : ℕ) (small : i < rack_places) (p : Place) where
  abbrev other : Rack
  other = with_place r i p

  here : place_at other i ≡ p
  here = set_here r.places typed.size i small p

  there : (j : ℕ) → (j ≡ i → ⊥) → place_at other j ≡ place_at r j
  there j n = set_there r.places typed.size i small p j n

  with-typed : p.name < name_count → Typed other
  with-typed l =
      record {
        size = length-set r.places i p ∙ typed.size;
        names = λ j b. elim (ℕ_discrete j i) [ yes e ↦ rw (e, here) l | no n ↦ rw (there j n) (typed.names j b) ];
      }

  with-sound :
      SoundRack r
      → (is_free p ≡ true → is_clear p ≡ true)
      → (is_free p ≡ false → SoundPlace r.key r.now.at p)
      → ((j : ℕ) → j < rack_places → is_free p ≡ false → is_free (place_at r j) ≡ false → (place_at r j).name ≡ p.name → ⊥)
      → SoundRack other
  with-sound q free used alone =
      record {
        key = q.key;
        now = q.now;
        free = λ j b. elim (ℕ_discrete j i) [ yes e ↦ rw (e, here) free | no n ↦ rw (there j n) (q.free j b) ];
        used = λ j b. elim (ℕ_discrete j i) [ yes e ↦ rw (e, here) used | no n ↦ rw (there j n) (q.used j b) ];
        apart =
            λ a b l h.
            elim (ℕ_discrete a i) [
              | yes e ↦
                  rw (e, here, there b (omega arith)) (apart-unless p (place_at r b) (λ f g d. alone b (omega arith) f g (sym d)))
              | no n ↦
                  elim (ℕ_discrete b i) [
                    | yes e ↦ rw (there a n, e, here) (apart-unless (place_at r a) p (λ g f d. alone a h f g d))
                    | no m ↦ rw (there a n, there b m) (q.apart a b l h)
                  ]
            ];
      }

-- A card put in: its stages list nothing, and no other has the name.
module _ (r : Rack) (name : ℕ) (card : Signature) (typed : Typed r) (ok : put_in_refusal r name card ≡ 0) where
  new-sound : SoundPlace r.key r.now.at (newcomer r name card)
  new-sound =
      let q = puts-in r name card ok in
      record {
        card = q.card-fits;
        keyed = q.keyed;
        since = omega arith;
        stages =
            every-intro _ stage_count
            (λ i l.
            stage-fits card.key _ card.length i r.now.at (idle (no-stage-at i)) (rw (no-stage-at i) (follows-none card.key)));
        from = all_none r.now.at;
      }

  put-in-fits : rack_fits (put_in r name card) ≡ true
  put-in-fits =
      let q = puts-in r name card ok in
      rw (after-put-in r name card ok)
      (rack-sound (with_place r (free_place r.places) (newcomer r name card))
      (with-sound r typed (free_place r.places) q.room (newcomer r name card) (sound-rack r q.fits)
      (λ e. absurd (true≢false (sym e ∙ new-used r name card typed ok)))
      (λ e. new-sound)
      (λ j l e f d. true≢false (sym (used-named name (place_at r j) f d) ∙ out-place name r.places q.out j l))))

  put-in-typed : name < name_count → Typed (put_in r name card)
  put-in-typed l =
      rw (after-put-in r name card ok)
      (with-typed r typed (free_place r.places) (puts-in r name card ok).room (newcomer r name card) l)

-- A card taken out leaves a clear place.
module _ (r : Rack) (name : ℕ) (typed : Typed r) (ok : take_out_refusal r name ≡ 0) where
  place-there : place_of name r.places < rack_places
  place-there = (in_place name r.places (takes_out r name ok).there).0

  take-out-fits : rack_fits (taken_out r name) ≡ true
  take-out-fits =
      rw (after-take-out r name ok)
      (rack-sound (with_place r (place_of name r.places) no_place)
      (with-sound r typed (place_of name r.places) place-there no_place (sound-rack r (takes_out r name ok).fits)
      (λ e. clear_none)
      (λ e. absurd (true≢false e))
      (λ j l e. absurd (true≢false e))))

  take-out-typed : Typed (taken_out r name)
  take-out-typed =
      rw (after-take-out r name ok) (with-typed r typed (place_of name r.places) place-there no_place (omega arith))

-- A byte taken: each card's stages are those of its watch.
module _ (r : Rack) (byte : ℕ) (ok : rack_stroke_refusal r ≡ 0) where
  struck-fits : rack_fits (after_rack_stroke r byte) ≡ true
  struck-fits =
      let q : SoundRack r = sound-rack r (strikes r ok).fits in
      let room : r.now.at < max_taken = (strikes r ok).unspent in
      rw (after-struck r ok byte)
      (rack-sound (struck_rack r byte)
      (record {
        key = q.key;
        now = record { within = room; print = pushed-below r.key r.now.print byte; starts = λ z. absurd (omega arith) };
        free =
            λ i l.
            rw (struck-at r.now byte r.places i l, struck-free r.now byte (place_at r i))
            (λ e. rw (struck-none r.now byte (place_at r i) e) (q.free i l e));
        used =
            λ i l.
            rw (struck-at r.now byte r.places i l, struck-free r.now byte (place_at r i))
            (λ e. struck-sound r q (place_at r i) (q.used i l e) byte room e);
        apart =
            λ i j b l.
            rw (
              struck-at r.now byte r.places i l,
              struck-at r.now byte r.places j (omega arith),
              struck-free r.now byte (place_at r i),
              struck-free r.now byte (place_at r j),
              struck-name r.now byte (place_at r i),
              struck-name r.now byte (place_at r j),
            )
            (q.apart i j b l);
      }))

  struck-typed : Typed r → Typed (after_rack_stroke r byte)
  struck-typed typed =
      rw (after-struck r ok byte)
      (record {
        size = length-tabulate _ rack_places;
        names = λ i l. rw (struck-at r.now byte r.places i l, struck-name r.now byte (place_at r i)) (typed.names i l);
      })

pub typed-after : (r : Rack) → Typed r → (call : Call) → Possible call → Typed (rack_after r call)
typed-after r typed (put-in name card) l = put-in-case r name card Typed typed (λ ok. put-in-typed r name card typed ok l)
typed-after r typed (take_out name) l = take-out-case r name Typed typed (take-out-typed r name typed)
typed-after r typed (stroke byte) l = struck-case r byte Typed typed (λ ok. struck-typed r byte ok typed)

abbrev Fits : Rack → Type 0
Fits r = rack_fits r ≡ true

pub fits_after : (r : Rack) → rack_fits r ≡ true → Typed r → (call : Call) → rack_fits (rack_after r call) ≡ true
fits_after r fits typed (put-in name card) = put-in-case r name card Fits fits (put-in-fits r name card typed)
fits_after r fits typed (take_out name) = take-out-case r name Fits fits (take-out-fits r name typed)
fits_after r fits typed (stroke byte) = struck-case r byte Fits fits (struck-fits r byte)
