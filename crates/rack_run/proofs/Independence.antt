-- What a name is told turns on the calls that concern it alone, and on whether they met a full rack.
-- Assumes nothing.
use Prim.Native.Nat.{ℕ, ◌<◌}
use mathlib.Core.Path.{◌≡◌, refl, sym, ◌∙◌, ap}
use mathlib.Core.Logic.{◌⊎◌, inl, inr}
use mathlib.Core.Bool.{Bool, true, false, cond, ◌&&◌, true≢false}
use mathlib.Core.List.{List, [], ◌∷◌, ◌++◌}
use mathlib.Core.Option.{Option, none, some}
use borrow.Author.Tests.{eqb-true, eqb-false, eq-eqb, ne_eqb}
use lib.Dec.{eqb, ltb}
use lib.ListN.{length}
use Rattle.fingerprint.specs.declared.Key.{Key}
use Rattle.fingerprint.specs.Fingerprint.{key_fits, same_key}
use Rattle.lists.proofs.Cases.{by-test}
use Rattle.signature.specs.declared.Signature.{Signature}
use Rattle.signature.specs.Signature.{signature_fits}
use Rattle.stage.specs.Stage.{max_taken}
use Rattle.walk.specs.declared.Answer.{Answer}
use Rattle.rack.specs.Rack.{name_count}
use Rattle.rack_run.specs.Calls.{Call, put-in, take_out, stroke, Possible, AllPossible, Standing, refusal_of, after, begun, ran, under}
use Rattle.rack_run.specs.Ledger.{Tenant, Ledger, empty_ledger, given, full, refusal_due, entered, noted, ledger}
use Rattle.rack_run.specs.Statement.{under_due, Says, SaysAfter}
use Rattle.rack_run.specs.Names.{concerns, Concern, meets, concerning, Outcome, saying_under, outcomes}
use Rattle.rack_run.proofs.Theorem.{rack-run}

-- What a name sees of a ledger: the bytes taken, and its own tenant.
record Sight : Type 0 where
  bytes : List ℕ
  tenant : Option Tenant

abbrev sight_of : ℕ → Ledger → Sight
sight_of name l = record { bytes = l.bytes; tenant = l.tenant name }

module _ (key : Key) where
  -- From this alone, and from whether the rack was full: the verdict on a call that concerns the name, what is said, and what it sees next.
  abbrev verdict : Sight → Bool → Call → ℕ
  verdict v crowded (put-in name card) =
      cond (signature_fits card && same_key card.key key) (cond (given v.tenant) 13 (cond crowded 12 0)) 10
  verdict v crowded (take_out name) = cond (given v.tenant) 0 14
  verdict v crowded (stroke byte) = cond (ltb (length v.bytes) max_taken) 0 6

  abbrev saying : Sight → Call → List Answer
  saying v (put-in name card) = []
  saying v (take_out name) = []
  saying v (stroke byte) = cond (eqb (verdict v false (stroke byte)) 0) (under_due v.tenant v.bytes byte) []

  abbrev turned : Sight → Call → Sight
  turned v (put-in name card) = record { bytes = v.bytes; tenant = some (record { card = card; since = length v.bytes }) }
  turned v (take_out name) = record { bytes = v.bytes; tenant = none }
  turned v (stroke byte) = record { bytes = v.bytes ++ byte ∷ []; tenant = v.tenant }

  abbrev next : Sight → Concern → Sight
  next v x = cond (eqb (verdict v x.met-full x.call) 0) (turned v x.call) v

  unfoldable sight_after : Sight → List Concern → Sight
  sight_after v [] = v
  sight_after v (x ∷ more) = sight_after (next v x) more

  unfoldable told : Sight → List Concern → List Outcome
  told v [] = []
  told v (x ∷ more) = record { refusal = verdict v x.met-full x.call; said = saying v x.call } ∷ told (next v x) more

  module _ (name : ℕ) where
    abbrev sight : Ledger → Sight
    sight = sight_of name

    -- The list's verdict on a call that concerns the name is the one from its sight.
    verdict-due :
        (l : Ledger) (call : Call) → concerns name call ≡ true → refusal_due key l call ≡ verdict (sight l) (meets l call) call
    verdict-due l (put-in other card) e = rw (eqb-true other name e)
    verdict-due l (take_out other) e = rw (eqb-true other name e)
    verdict-due l (stroke byte) e = refl

    entered-turned : (l : Ledger) (call : Call) → concerns name call ≡ true → sight (entered l call) ≡ turned (sight l) call
    entered-turned l (put-in other card) e = rw (eq-eqb name other (sym (eqb-true other name e)))
    entered-turned l (take_out other) e = rw (eq-eqb name other (sym (eqb-true other name e)))
    entered-turned l (stroke byte) e = refl

    entered-same : (l : Ledger) (call : Call) → concerns name call ≡ false → sight (entered l call) ≡ sight l
    entered-same l (put-in other card) e = rw (ne_eqb name other (λ f. eqb-false other name e (sym f)))
    entered-same l (take_out other) e = rw (ne_eqb name other (λ f. eqb-false other name e (sym f)))
    entered-same l (stroke byte) e = absurd (true≢false e)

    noted-next :
        (l : Ledger) (call : Call)
        → concerns name call ≡ true
        → sight (noted key l call) ≡ next (sight l) (record { call = call; met-full = meets l call })
    noted-next l call e =
        let v = verdict-due l call e in
        by-test (eqb (refusal_due key l call) 0)
        (λ t. rw (t, rw v at t) (entered-turned l call e))
        (λ t. rw (t, rw v at t))

    noted-same : (l : Ledger) (call : Call) → concerns name call ≡ false → sight (noted key l call) ≡ sight l
    noted-same l call e =
        by-test (eqb (refusal_due key l call) 0) (λ t. rw t (entered-same l call e)) (λ t. rw t)

    sight-after :
        (l : Ledger) (calls : List Call)
        → sight (ledger key l calls) ≡ sight_after (sight l) (concerning key name l calls)
    unfolding ledger concerning sight_after
    sight-after l [] = refl
    sight-after l (call ∷ calls) =
        let rest : List Concern = concerning key name (noted key l call) calls in
        let later = sight-after (noted key l call) calls in
        by-test (concerns name call)
        (λ e. rw e (later ∙ ap (λ (v : Sight). sight_after v rest) (noted-next l call e)))
        (λ e. rw e (later ∙ ap (λ (v : Sight). sight_after v rest) (noted-same l call e)))

    module _ (below : name < name_count) where
      saying-due :
          (s : Standing) (l : Ledger) → Says key s l → (call : Call) → Possible call → saying_under name s call ≡ saying (sight l) call
      unfolding under
      saying-due s l says (put-in other card) p = refl
      saying-due s l says (take_out other) p = refl
      saying-due s l says (stroke byte) p =
          by-test (eqb (refusal_due key l (stroke byte)) 0)
          (λ t. rw t (says.each byte name p below (eqb-true _ 0 t)))
          (λ t. rw (says.reports byte p, t))

      -- Wherever further calls lead, the rack says what the list does.
      abbrev Always : Standing → Ledger → Type 0
      Always s l = (more : List Call) → AllPossible more → Says key (ran s more) (ledger key l more)

      outcomes-told :
          (s : Standing) (l : Ledger) (calls : List Call)
          → AllPossible calls
          → Always s l
          → outcomes name s calls ≡ told (sight l) (concerning key name l calls)
      unfolding ran ledger concerning outcomes told
      outcomes-told s l [] p always = refl
      outcomes-told s l (call ∷ calls) p always =
          let rest : List Concern = concerning key name (noted key l call) calls in
          let later = outcomes-told (after s call) (noted key l call) calls p.1 (λ more q. always (call ∷ more) (p.0, q)) in
          let says : Says key s l = always [] tt in
          by-test (concerns name call)
          (λ e.
          let verdicts = says.refusals call p.0 ∙ verdict-due l call e in
          let sayings = saying-due s l says call p.0 in
          let rests = later ∙ ap (λ (v : Sight). told v rest) (noted-next l call e) in
          rw (e, verdicts, sayings, rests))
          (λ e. rw e (later ∙ ap (λ (v : Sight). told v rest) (noted-same l call e)))

-- Of two verdicts on one putting in, under a name with one tenant, that differ: the one was given at a full rack, the other was none.
verdicts-differ :
    (fits taken crowded crowded' : Bool)
    → let x : ℕ = cond fits (cond taken 13 (cond crowded 12 0)) 10 in
    let y : ℕ = cond fits (cond taken 13 (cond crowded' 12 0)) 10 in
    (x ≡ y → ⊥)
    → ((x ≡ 12) × (y ≡ 0)) ⊎ ((x ≡ 0) × (y ≡ 12))
verdicts-differ false taken crowded crowded' n = absurd (n refl)
verdicts-differ true true crowded crowded' n = absurd (n refl)
verdicts-differ true false true true n = absurd (n refl)
verdicts-differ true false true false n = inl (refl, refl)
verdicts-differ true false false true n = inr (refl, refl)
verdicts-differ true false false false n = absurd (n refl)

-- "other names can alter only whether a card gets in": two lists of calls that hold the same for a name bring it the same, and where they
-- part over a card that is put in under it next, the one list has it meet a full rack and the other has it accepted.
module _
    (key : Key)
    (fits : key_fits key ≡ true)
    (xs ys : List Call)
    (possible : AllPossible xs)
    (possible' : AllPossible ys)
    (name : ℕ)
    (below : name < name_count)
    (same : concerning key name empty_ledger xs ≡ concerning key name empty_ledger ys)
  where
    says : (calls : List Call) → AllPossible calls → SaysAfter key calls
    says = rack-run key fits

    pub independent : outcomes name (begun key) xs ≡ outcomes name (begun key) ys
    independent =
        outcomes-told key name below (begun key) empty_ledger xs possible says
        ∙ ap (told key (sight_of name empty_ledger)) same
        ∙ sym (outcomes-told key name below (begun key) empty_ledger ys possible' says)

    same-sight : sight_of name (ledger key empty_ledger xs) ≡ sight_of name (ledger key empty_ledger ys)
    same-sight =
        sight-after key name empty_ledger xs
        ∙ ap (sight_after key (sight_of name empty_ledger)) same
        ∙ sym (sight-after key name empty_ledger ys)

    pub differing :
        (card : Signature)
        → let rx : ℕ = refusal_of (ran (begun key) xs).rack (put-in name card) in
        let ry : ℕ = refusal_of (ran (begun key) ys).rack (put-in name card) in
        (rx ≡ ry → ⊥)
        → ((rx ≡ 12) × (ry ≡ 0)) ⊎ ((rx ≡ 0) × (ry ≡ 12))
    differing card =
        rw (
          (says xs possible).refusals (put-in name card) below,
          (says ys possible').refusals (put-in name card) below,
          ap (λ (v : Sight). v.tenant) same-sight,
        )
        (verdicts-differ (signature_fits card && same_key card.key key) (given ((ledger key empty_ledger ys).tenant name))
        (full (ledger key empty_ledger xs)) (full (ledger key empty_ledger ys)))
