-- Each call keeps a rack beside what the list of its calls says.
-- Assumes nothing.
use Prim.Native.Nat.{ℕ, suc, ◌<◌}
use mathlib.Core.Path.{◌≡◌, sym, ◌∙◌, ap}
use mathlib.Core.Bool.{true, false, cond, true≢false}
use mathlib.Core.List.{[], ◌∷◌, ◌++◌, map-append}
use mathlib.Core.Option.{Option, none, some, some-injective}
use native.Mathlib.Omega.{arith}
use lib.Dec.{eqb}
use lib.ListN.{length, length-append}
use borrow.Author.Tests.{eqb-true, eqb-false}
use Rattle.fingerprint.specs.declared.Key.{Key}
use Rattle.fingerprint.proofs.Laws.{same-key-eq}
use Rattle.lists.proofs.Cases.{by-test}
use Rattle.signature.specs.declared.Signature.{Signature}
use Rattle.stage.specs.declared.Mark.{Mark}
use Rattle.rack.specs.declared.Rack.{Rack}
use Rattle.rack.specs.Rack.{name_count, rack_fits, is_in, place_of, place_named, watch_at, rack_reports}
use Rattle.rack.specs.Rack.{put_in_refusal, put_in, take_out_refusal, taken_out, rack_stroke_refusal, after_rack_stroke}
use Rattle.rack_run.specs.Calls.{Call, put-in, take_out, stroke, Possible, Taken, Standing, refusal_of, after}
use Rattle.rack_run.specs.Ledger.{Tenant, Ledger, given, refusal_due, entered, noted}
use Rattle.rack_run.specs.Statement.{Own}
use Rattle.rack_run.specs.AnyRack.{Typed}
use Rattle.rack_run.proofs.Sound.{sound-rack}
use Rattle.rack.proofs.Lookups.{named-name, in_place}
use Rattle.rack_run.proofs.Accepted.{puts-in, after-put-in, after-take-out, after-struck}
use Rattle.rack_run.proofs.Places.{put-in-others, put_in_place, put-in-other-place, take-out-others, take-out-other-place, struck-in}
use Rattle.rack_run.proofs.Kept.{typed-after, fits_after}
use Rattle.rack_run.proofs.Tenants.{Tracks, tracks-begun, tracks_on, tracks-struck, own-taken}
use Rattle.rack_run.proofs.Histories.{own_on, own-begun, own-struck}
use Rattle.rack_run.proofs.Follows.{Follows, verdicts, each-due}

-- A refused call leaves the rack and its history as they are.
refused : (s : Standing) (call : Call) → eqb (refusal_of s.rack call) 0 ≡ false → after s call ≡ s
unfolding put_in taken_out after_rack_stroke
refused s (put-in name card) e = rw e
refused s (take_out name) e = rw e
refused s (stroke byte) e = rw e

module _ (key : Key) (s : Standing) (l : Ledger) (q : Follows key s l) where
  abbrev r : Rack
  r = s.rack

  there : (name : ℕ) (x : Tenant) → l.tenant name ≡ some x → is_in name r.places ≡ true
  there name x e = q.names name ∙ ap given e

  below : (name : ℕ) → is_in name r.places ≡ true → name < name_count
  below name e =
      let found = in_place name r.places e in
      rw (named-name name _ found.1) at (q.typed.names (place_of name r.places) found.0)

  -- a call that gives one name a tenant, or none, and leaves the others theirs
  changed :
      (next : Rack) (name : ℕ) (o : Option Tenant)
      → next.key ≡ r.key
      → next.now ≡ r.now
      → rack_fits next ≡ true
      → Typed next
      → ((n : ℕ) → is_in n next.places ≡ cond (eqb n name) (given o) (is_in n r.places))
      → ((n : ℕ) → (n ≡ name → ⊥) → is_in n r.places ≡ true → place_named n next.places ≡ place_named n r.places)
      → ((x : Tenant) → o ≡ some x → Tracks next l.bytes name x × Own name x (record { rack = next; history = s.history }))
      → Follows key (record { rack = next; history = s.history })
      (record { bytes = l.bytes; tenant = λ n. cond (eqb n name) o (l.tenant n) })
  changed next name o key now fits typed names others here =
      record {
        one_key = key ∙ q.one_key;
        fits = fits;
        typed = typed;
        bytes = q.bytes;
        count = ap (λ (a : Mark). a.at) now ∙ q.count;
        names = λ n. names n ∙ by-test (eqb n name) (λ e. rw e) (λ e. rw e (q.names n));
        tenants = λ n x e.
            by-test (eqb n name)
            (λ t. rw (eqb-true n name t) (here x (rw t at e)))
            (λ f.
            let e' : l.tenant n ≡ some x = rw f at e in (
              tracks_on r next l.bytes n x key now (others n (eqb-false n name f) (there n x e')) (q.tenants n x e').0,
              own_on n x s next (q.tenants n x e').1,
            ));
      }

  module _ (name : ℕ) (card : Signature) (possible : Possible (put-in name card)) (ok : put_in_refusal r name card ≡ 0) where
    abbrev next : Rack
    next = put_in r name card

    abbrev newcomer : Tenant
    newcomer = record { card = card; since = length l.bytes }

    same_key : next.key ≡ r.key
    same_key = ap (λ (a : Rack). a.key) (after-put-in r name card ok)

    same-now : next.now ≡ r.now
    same-now = ap (λ (a : Rack). a.now) (after-put-in r name card ok)

    with-card : Tracks next l.bytes name newcomer
    with-card =
        let fine = puts-in r name card ok in
        let sound = sound-rack r q.fits in
        tracks-begun next l.bytes name card
        (rw same-now (record { print = sound.now.print; starts = sound.now.starts }))
        (rw same-now q.count) fine.card-fits (same-key-eq _ _ fine.keyed ∙ sym same_key)
        (ap (watch_at next.now) (put_in_place r name card q.typed ok))

    put-in-kept : Follows key (after s (put-in name card)) (entered l (put-in name card))
    put-in-kept =
        changed next name (some newcomer) same_key same-now (fits_after r q.fits q.typed (put-in name card))
        (typed-after r q.typed (put-in name card) possible) (put-in-others r name card q.typed ok)
        (put-in-other-place r name card q.typed ok)
        (λ x e.
        rw (← some-injective newcomer x e)
        (with-card, own-begun name card (length l.bytes) next s.history (ap length (sym q.bytes))))

  take-out-kept :
      (name : ℕ) → Possible (take_out name) → take_out_refusal r name ≡ 0 → Follows key (after s (take_out name)) (entered l (take_out name))
  take-out-kept name possible ok =
      let next = after-take-out r name ok in
      changed (taken_out r name) name none (ap (λ (a : Rack). a.key) next) (ap (λ (a : Rack). a.now) next)
      (fits_after r q.fits q.typed (take_out name)) (typed-after r q.typed (take_out name) possible)
      (take-out-others r name q.typed ok) (take-out-other-place r name q.typed ok)
      (λ x e. absurd (true≢false (sym (ap given e))))

  module _ (byte : ℕ) (possible : Possible (stroke byte)) (ok : rack_stroke_refusal r ≡ 0) where
    abbrev taken : Taken
    taken = record { byte = byte; reports = rack_reports r byte }

    struck-own : (n : ℕ) (x : Tenant) → l.tenant n ≡ some x → Own n x (after s (stroke byte))
    struck-own n x e =
        rw ok
        (own-struck n x s (q.tenants n x e).1 taken
        (rw q.bytes (own-taken r l.bytes n x (q.tenants n x e).0 ok byte))
        (each-due key s l q byte n (below n (there n x e)) (sym (verdicts key s l q (stroke byte)) ∙ ok) ∙ rw (e, q.bytes))
        (after_rack_stroke r byte))

    stroke-kept : Follows key (after s (stroke byte)) (entered l (stroke byte))
    stroke-kept =
        let next = after-struck r ok byte in
        record {
          one_key = ap (λ (a : Rack). a.key) next ∙ q.one_key;
          fits = fits_after r q.fits q.typed (stroke byte);
          typed = typed-after r q.typed (stroke byte) possible;
          bytes = rw ok (map-append _ s.history _ ∙ ap (λ b. b ++ byte ∷ []) q.bytes);
          count = ap (λ (a : Rack). a.now.at) next ∙ ap suc q.count ∙ omega (arith, length-append l.bytes (byte ∷ []));
          names = λ n. struck-in r byte ok n ∙ q.names n;
          tenants = λ n x e. (tracks-struck r l.bytes n x (q.tenants n x e).0 ok byte (there n x e), struck-own n x e);
        }

  accepted : (call : Call) → Possible call → refusal_of r call ≡ 0 → Follows key (after s call) (entered l call)
  accepted (put-in name card) possible ok = put-in-kept name card possible ok
  accepted (take_out name) possible ok = take-out-kept name possible ok
  accepted (stroke byte) possible ok = stroke-kept byte possible ok

  pub kept : (call : Call) → Possible call → Follows key (after s call) (noted key l call)
  kept call possible =
      let same = verdicts key s l q call in
      by-test (eqb (refusal_due key l call) 0)
      (λ e. rw e (accepted call possible (same ∙ eqb-true _ _ e)))
      (λ e. rw (e, refused s call (rw same e)) q)
