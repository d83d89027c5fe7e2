-- The one theorem on racks (document 02, A.1): after every list of calls on a rack that was begun with a key within limits, the rack
-- hands out what the list itself says, to the last number.
-- Assumes nothing.
use Prim.Native.Nat.{ℕ}
use mathlib.Core.Path.{◌≡◌, refl, sym, ◌∙◌, ap}
use mathlib.Core.Bool.{true, false, cond, true≢false}
use mathlib.Core.List.{List, [], ◌∷◌}
use native.Mathlib.Omega.{arith}
use lib.Dec.{ltb}
use lib.ListN.{length, replicate}
use Rattle.fingerprint.specs.declared.Key.{Key}
use Rattle.fingerprint.specs.Fingerprint.{key_fits}
use Rattle.stage.specs.Stage.{max_taken}
use Rattle.rack.specs.Rack.{rack_places, no_place, is_in, first_place, rack_begun}
use Rattle.rack_run.specs.Calls.{Call, stroke, AllPossible, Standing, refusal_of, begun, after, ran, bytes_taken}
use Rattle.rack_run.specs.Ledger.{Ledger, empty_ledger, given, noted, ledger}
use Rattle.rack_run.specs.Statement.{SaysAfter}
use Rattle.rack_run.proofs.Begun.{begun-fits, begun-typed}
use Rattle.rack_run.proofs.Follows.{Follows, says}
use Rattle.rack_run.proofs.Steps.{kept}

-- A rack that was begun: no name is in, and no byte was taken.
none_in : (name : ℕ) → is_in name (replicate rack_places no_place) ≡ false
unfolding first_place
none_in name = refl

follows-begun : (key : Key) → key_fits key ≡ true → Follows key (begun key) empty_ledger
unfolding rack_begun
follows-begun key e =
    record {
      one_key = rw e;
      fits = begun-fits key e;
      typed = begun-typed key;
      bytes = refl;
      count = rw e;
      names = λ name. rw e (none_in name);
      tenants = λ name x h. absurd (true≢false (sym (ap given h)));
    }

-- Every call keeps it so.
follows :
    (key : Key) (s : Standing) (l : Ledger) (calls : List Call)
    → AllPossible calls
    → Follows key s l
    → Follows key (ran s calls) (ledger key l calls)
unfolding ran ledger
follows key s l [] possible q = q
follows key s l (call ∷ calls) possible q =
    follows key (after s call) (noted key l call) calls possible.1 (kept key s l q call possible.0)

pub rack-run : (key : Key) → key_fits key ≡ true → (calls : List Call) → AllPossible calls → SaysAfter key calls
rack-run key e calls possible = says key _ _ (follows key (begun key) empty_ledger calls possible (follows-begun key e))

-- Strokes are taken exactly while fewer bytes were taken than can be.
pub strokes-until-limit :
    (key : Key) → key_fits key ≡ true → (calls : List Call) → AllPossible calls → (byte : ℕ)
    → refusal_of (ran (begun key) calls).rack (stroke byte)
    ≡ cond (ltb (length (bytes_taken (ran (begun key) calls).history)) max_taken) 0 6
strokes-until-limit key e calls possible byte =
    let q : SaysAfter key calls = rack-run key e calls possible in
    q.refusals (stroke 0) (omega arith) ∙ rw q.bytes
