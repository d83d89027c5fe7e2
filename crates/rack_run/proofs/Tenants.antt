-- A card's place beside a watch of its own that was begun when the card was put in: the place's watch is that one, raised.
-- Assumes nothing.
use Prim.Native.Nat.{ℕ, ◌+◌, ◌≤◌, ◌<◌}
use mathlib.Core.Path.{◌≡◌, sym, ◌∙◌, ap}
use mathlib.Core.Bool.{true, false}
use mathlib.Core.List.{List, [], ◌∷◌, ◌++◌}
use native.Mathlib.Omega.{arith}
use lib.ListN.{length, drop, length-append}
use lib.Seq.{drop-length, drop-append-le}
use borrow.Author.Tests.{lt-ltb}
use Rattle.fingerprint.specs.declared.Key.{Key}
use Rattle.signature.specs.declared.Signature.{Signature}
use Rattle.signature.specs.Signature.{signature_fits}
use Rattle.stage.specs.declared.Mark.{Mark}
use Rattle.stage.specs.Stage.{max_taken, next_mark}
use Rattle.stage.specs.Stages.{no_stages}
use Rattle.matcher.specs.declared.Matcher.{Matcher}
use Rattle.matcher.specs.Matcher.{matcher_fits, blank, fresh}
use Rattle.matcher.specs.Stroke.{stroke_refusal, stroke_answer, after_stroke}
use Rattle.matcher.proofs.Sound.{after-taken}
use Rattle.matcher.proofs.FreshFits.{fresh-fits}
use Rattle.matcher.proofs.StrokeFits.{stroke-fits}
use Rattle.raising.specs.Raised.{raised_watch, raised_answer}
use Rattle.raising.proofs.Strokes.{Base, raised-blank, raised-taken, raised-whole, raised-after}
use Rattle.rack_place.specs.declared.Place.{Place}
use Rattle.rack.specs.declared.Rack.{Rack}
use Rattle.rack.specs.Rack.{is_free, is_in, place_named, watch_at, rack_stroke_refusal, struck_place, after_rack_stroke}
use Rattle.rack_run.specs.Ledger.{Tenant, watch_after, own_answer}
use Rattle.rack.proofs.Lookups.{named-used, in_place}
use Rattle.rack_run.proofs.Accepted.{strikes, after-struck}
use Rattle.rack_run.proofs.Places.{struck-place}
use Rattle.rack_run.proofs.Bytes.{watch-more}

-- The watch of its own that a tenant has, once the bytes were taken.
abbrev pub own_watch : Tenant → List ℕ → Matcher
own_watch x bytes = watch_after (fresh x.card) (drop x.since bytes)

-- What the rack keeps of a name: the tenant's own watch, raised behind the bytes before it.
pub record Tracks (r : Rack) (bytes : List ℕ) (name : ℕ) (x : Tenant) : Type 0 where
  pub base : Mark
  pub based : Base base
  pub begins : base.at ≡ x.since
  pub since : x.since ≤ length bytes
  pub fits : matcher_fits (own_watch x bytes) ≡ true
  pub keyed : (own_watch x bytes).signature.key ≡ r.key
  pub watch : watch_at r.now (place_named name r.places) ≡ raised_watch base (own_watch x bytes)

-- A card that is put in.
fresh-blank : (card : Signature) → signature_fits card ≡ true → fresh card ≡ blank card
unfolding fresh
fresh-blank card e = rw e

pub tracks-begun :
    (r : Rack) (bytes : List ℕ) (name : ℕ) (card : Signature)
    → Base r.now
    → r.now.at ≡ length bytes
    → signature_fits card ≡ true
    → card.key ≡ r.key
    → watch_at r.now (place_named name r.places) ≡ record { signature = card; now = r.now; stages = no_stages }
    → Tracks r bytes name (record { card = card; since = length bytes })
unfolding watch_after
tracks-begun r bytes name card based count fits keyed watch =
    let own : own_watch (record { card = card; since = length bytes }) bytes ≡ blank card =
    ap (watch_after (fresh card)) (drop-length bytes) ∙ fresh-blank card fits
    in
    record {
      base = r.now;
      based = based;
      begins = count;
      since = omega arith;
      fits = rw (drop-length bytes) (fresh-fits card fits);
      keyed = ap (λ (w : Matcher). w.signature.key) own ∙ keyed;
      watch = watch ∙ sym (ap (raised_watch r.now) own ∙ raised-blank r.now card based);
    }

-- Whatever leaves its place, the key, t and F_t as they are.
pub tracks_on :
    (r s : Rack) (bytes : List ℕ) (name : ℕ) (x : Tenant)
    → s.key ≡ r.key
    → s.now ≡ r.now
    → place_named name s.places ≡ place_named name r.places
    → Tracks r bytes name x
    → Tracks s bytes name x
tracks_on r s bytes name x key now place q =
    record {
      base = q.base;
      based = q.based;
      begins = q.begins;
      since = q.since;
      fits = q.fits;
      keyed = q.keyed ∙ sym key;
      watch = (λ i. watch_at (now i) (place i)) ∙ q.watch;
    }

-- The place of a byte taken, as a watch, is that watch with the byte taken.
struck-watch :
    (key : Key) (now : Mark) (byte : ℕ) (p : Place)
    → is_free p ≡ false
    → p.signature.key ≡ key
    → stroke_refusal (watch_at now p) ≡ 0
    → watch_at (next_mark key now byte) (struck_place now byte p) ≡ after_stroke (watch_at now p) byte
unfolding struck_place
struck-watch key now byte p used keyed taken =
    rw (used, after-taken (watch_at now p) byte taken) (rw keyed)

-- A stroke.
module _
    (r : Rack) (bytes : List ℕ) (name : ℕ) (x : Tenant) (q : Tracks r bytes name x) (taken : rack_stroke_refusal r ≡ 0) (byte : ℕ)
  where
    abbrev w : Matcher
    w = own_watch x bytes

    abbrev place : Place
    place = place_named name r.places

    count : r.now.at ≡ q.base.at + w.now.at
    unfolding raised_watch
    count = ap (λ (m : Matcher). m.now.at) q.watch

    room : q.base.at + w.now.at < max_taken
    room = omega (arith, count, (strikes r taken).unspent)

    -- Its own watch takes the byte too,
    pub own-taken : stroke_refusal w ≡ 0
    own-taken = rw (q.fits, lt-ltb w.now.at max_taken (omega (arith, room)))

    -- and answers as the place does, but for the raising.
    pub own-answered : stroke_answer (watch_at r.now place) byte ≡ own_answer x bytes byte
    own-answered =
        ap (λ (m : Matcher). stroke_answer m byte) q.watch
        ∙ raised-whole q.base w q.based q.fits byte room
        ∙ ap (λ (c : ℕ). raised_answer c (stroke_answer w byte)) q.begins

    own-more : own_watch x (bytes ++ byte ∷ []) ≡ after_stroke w byte
    own-more =
        ap (watch_after (fresh x.card)) (drop-append-le x.since bytes (byte ∷ []) q.since)
        ∙ watch-more (fresh x.card) (drop x.since bytes) byte

    place-taken : stroke_refusal (watch_at r.now place) ≡ 0
    place-taken = ap stroke_refusal q.watch ∙ raised-taken q.base w q.based q.fits byte room

    place-keyed : place.signature.key ≡ r.key
    unfolding raised_watch
    place-keyed = ap (λ (m : Matcher). m.signature.key) q.watch ∙ q.keyed

    -- Both go on alike.
    pub tracks-struck : is_in name r.places ≡ true → Tracks (after_rack_stroke r byte) (bytes ++ byte ∷ []) name x
    tracks-struck inside =
        let next = after-struck r taken byte in
        let used = named-used name place (in_place name r.places inside).1 in
        record {
          base = q.base;
          based = q.based;
          begins = q.begins;
          since = omega (arith, length-append bytes (byte ∷ []), q.since);
          fits = rw own-more (stroke-fits w byte own-taken);
          keyed =
              ap (λ (m : Matcher). m.signature.key) (own-more ∙ after-taken w byte own-taken)
              ∙ q.keyed
              ∙ sym (ap (λ (a : Rack). a.key) next);
          watch =
              (λ i. watch_at (next i).now (struck-place r byte taken name inside i))
              ∙ struck-watch r.key r.now byte place used place-keyed place-taken
              ∙ ap (λ (m : Matcher). after_stroke m byte) q.watch
              ∙ raised-after q.base w q.based q.fits byte room
              ∙ ap (raised_watch q.base) (sym own-more);
        }
