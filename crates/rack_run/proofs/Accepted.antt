-- What it says of a rack's call that it is accepted, and the rack that it hands back.
-- Assumes nothing.
use Prim.Native.Nat.{ℕ, suc, ◌<◌}
use mathlib.Core.Path.{◌≡◌, refl}
use mathlib.Core.Bool.{Bool, true, false, cond, ◌&&◌}
use native.Mathlib.Omega.{arith}
use lib.Dec.{eqb, ltb}
use lib.ListN.{set}
use borrow.Author.Tests.{eqb-true, ltb-true}
use Rattle.fingerprint.specs.Fingerprint.{same_key}
use Rattle.lists.proofs.Laws.{and_left, and_right}
use Rattle.lists.proofs.Cases.{by-test}
use Rattle.signature.specs.declared.Signature.{Signature}
use Rattle.signature.specs.Signature.{signature_fits}
use Rattle.stage.specs.Stage.{max_taken, next_mark}
use Rattle.stage.specs.Stages.{no_stages}
use Rattle.rack_place.specs.declared.Place.{Place}
use Rattle.rack.specs.declared.Rack.{Rack}
use Rattle.rack.specs.Rack.{
  rack_places,
  no_place,
  rack_fits,
  place_of,
  free_place,
  is_in,
  put_in_refusal,
  put_in,
  take_out_refusal,
  taken_out,
  rack_stroke_refusal,
  struck_places,
  after_rack_stroke,
}

-- a test that must pass, and one that must fail, for there to be no refusal
must-hold : (b : Bool) (n m : ℕ) → cond b n (suc m) ≡ 0 → (b ≡ true) × (n ≡ 0)
must-hold true n m e = (refl, e)
must-hold false n m e = absurd (omega arith)

must-not-hold : (b : Bool) (n m : ℕ) → cond b (suc m) n ≡ 0 → (b ≡ false) × (n ≡ 0)
must-not-hold true n m e = absurd (omega arith)
must-not-hold false n m e = (refl, e)

-- the rack with another place
abbrev pub with_place : Rack → ℕ → Place → Rack
with_place r i p = record { key = r.key; now = r.now; places = set r.places i p }

-- Putting a card in.
pub record PutsIn (r : Rack) (name : ℕ) (card : Signature) : Type 0 where
  pub fits : rack_fits r ≡ true
  pub card-fits : signature_fits card ≡ true
  pub keyed : same_key card.key r.key ≡ true
  pub out : is_in name r.places ≡ false
  pub room : free_place r.places < rack_places

module _ (r : Rack) (name : ℕ) (card : Signature) where
  abbrev pub newcomer : Place
  newcomer = record { name = name; since = r.now.at; signature = card; stages = no_stages }

  module _ (ok : put_in_refusal r name card ≡ 0) where
    pub puts-in : PutsIn r name card
    puts-in =
        let a = must-hold (rack_fits r && signature_fits card && same_key card.key r.key) _ 9 ok in
        let b = must-not-hold (is_in name r.places) _ 12 a.1 in
        let c = must-hold (ltb (free_place r.places) rack_places) 0 11 b.1 in
        let d = and_left (rack_fits r && signature_fits card) _ a.0 in
        record {
          fits = and_left _ _ d;
          card-fits = and_right (rack_fits r) _ d;
          keyed = and_right (rack_fits r && signature_fits card) _ a.0;
          out = b.0;
          room = ltb-true _ _ c.0;
        }

    pub after-put-in : put_in r name card ≡ with_place r (free_place r.places) newcomer
    unfolding put_in
    after-put-in = rw ok

  -- a refused one leaves the rack as it is
  pub put-in-case : (P : Rack → Type 0) → P r → (put_in_refusal r name card ≡ 0 → P (put_in r name card)) → P (put_in r name card)
  unfolding put_in
  put-in-case P same taken =
      by-test (eqb (put_in_refusal r name card) 0) (λ e. taken (eqb-true _ _ e)) (λ e. rw (e, put_in) same)

-- Taking one out.
pub record TakesOut (r : Rack) (name : ℕ) : Type 0 where
  pub fits : rack_fits r ≡ true
  pub there : is_in name r.places ≡ true

module _ (r : Rack) (name : ℕ) where
  module _ (ok : take_out_refusal r name ≡ 0) where
    pub takes_out : TakesOut r name
    takes_out =
        let a = must-hold (rack_fits r) _ 9 ok in
        record { fits = a.0; there = (must-hold (is_in name r.places) 0 13 a.1).0 }

    pub after-take-out : taken_out r name ≡ with_place r (place_of name r.places) no_place
    unfolding taken_out
    after-take-out = rw ok

  pub take-out-case : (P : Rack → Type 0) → P r → (take_out_refusal r name ≡ 0 → P (taken_out r name)) → P (taken_out r name)
  unfolding taken_out
  take-out-case P same taken =
      by-test (eqb (take_out_refusal r name) 0) (λ e. taken (eqb-true _ _ e)) (λ e. rw (e, taken_out) same)

-- A stroke.
pub record Strikes (r : Rack) : Type 0 where
  pub fits : rack_fits r ≡ true
  pub unspent : r.now.at < max_taken

-- the rack that has taken a byte
abbrev pub struck_rack : Rack → ℕ → Rack
struck_rack r byte = record { key = r.key; now = next_mark r.key r.now byte; places = struck_places r.now byte r.places }

module _ (r : Rack) where
  module _ (ok : rack_stroke_refusal r ≡ 0) where
    pub strikes : Strikes r
    strikes =
        let a = must-hold (rack_fits r) _ 9 ok in
        record { fits = a.0; unspent = ltb-true _ _ (must-hold (ltb r.now.at max_taken) 0 5 a.1).0 }

    pub after-struck : (byte : ℕ) → after_rack_stroke r byte ≡ struck_rack r byte
    unfolding after_rack_stroke
    after-struck byte = rw ok

  pub struck-case :
      (byte : ℕ) (P : Rack → Type 0) → P r → (rack_stroke_refusal r ≡ 0 → P (after_rack_stroke r byte)) → P (after_rack_stroke r byte)
  unfolding after_rack_stroke
  struck-case byte P same taken =
      by-test (eqb (rack_stroke_refusal r) 0) (λ e. taken (eqb-true _ _ e)) (λ e. rw (e, after_rack_stroke) same)
