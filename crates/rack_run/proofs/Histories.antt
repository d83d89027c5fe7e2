-- What a name's reports have said since its card was put in: nothing yet, and one byte more.
-- Assumes nothing.
use Prim.Native.Nat.{ℕ, ◌≤◌}
use mathlib.Core.Path.{◌≡◌, sym, ◌∙◌, ap}
use mathlib.Core.List.{List, [], ◌∷◌, ◌++◌, map, map-append}
use native.Mathlib.Omega.{arith}
use lib.ListN.{length, drop, length-append, length-map}
use lib.Seq.{drop-length, drop-append-le}
use Rattle.signature.specs.declared.Signature.{Signature}
use Rattle.matcher.specs.declared.Matcher.{Matcher}
use Rattle.walk.specs.declared.Answer.{Answer}
use Rattle.matcher.specs.Matcher.{fresh}
use Rattle.matcher.specs.Stroke.{stroke_refusal}
use Rattle.raising.specs.Raised.{raised_answer}
use Rattle.rack.specs.declared.Rack.{Rack}
use Rattle.rack_run.specs.Calls.{Taken, Standing, bytes_taken, said_under}
use Rattle.rack_run.specs.Ledger.{Tenant, watch_after, answers_to, Accepts, own_answer}
use Rattle.rack_run.specs.Statement.{Own}
use Rattle.rack_run.proofs.Bytes.{answers-more, accepts-more}

-- What was said turns on the history alone.
pub own_on : (name : ℕ) (x : Tenant) (s : Standing) (r : Rack) → Own name x s → Own name x (record { rack = r; history = s.history })
own_on name x s r q = record { begun-by = q.begun-by; accepts = q.accepts; answers = q.answers }

pub own-begun :
    (name : ℕ) (card : Signature) (since : ℕ) (r : Rack) (h : List Taken)
    → since ≡ length (bytes_taken h)
    → Own name (record { card = card; since = since }) (record { rack = r; history = h })
unfolding answers_to Accepts
own-begun name card since r h e =
    let count : length (bytes_taken h) ≡ length h = length-map h (λ x. x.byte) in
    record {
      begun-by = omega arith;
      accepts = rw (e, drop-length (bytes_taken h)) tt;
      answers = rw (e, drop-length (bytes_taken h), count, drop-length h);
    }

-- a byte more behind the bytes since
bytes-more :
    (since : ℕ) (h : List Taken) (x : Taken)
    → since ≤ length h
    → drop since (bytes_taken (h ++ x ∷ [])) ≡ drop since (bytes_taken h) ++ x.byte ∷ []
bytes-more since h x l =
    ap (drop since) (map-append (λ x. x.byte) h (x ∷ []))
    ∙ drop-append-le since (bytes_taken h) (x.byte ∷ []) (omega (arith, length-map h (λ x. x.byte)))

module _
    (name : ℕ) (x : Tenant) (s : Standing) (q : Own name x s) (y : Taken)
    (taken : stroke_refusal (watch_after (fresh x.card) (drop x.since (bytes_taken s.history))) ≡ 0)
    (said : said_under name y ≡ own_answer x (bytes_taken s.history) y.byte ∷ [])
  where
    abbrev w : Matcher
    w = fresh x.card

    abbrev h : List Taken
    h = s.history

    abbrev bytes : List ℕ
    bytes = drop x.since (bytes_taken h)

    abbrev raise : Answer → List Answer
    raise a = raised_answer x.since a ∷ []

    more : drop x.since (bytes_taken (h ++ y ∷ [])) ≡ bytes ++ y.byte ∷ []
    more = bytes-more x.since h y q.begun-by

    pub own-struck : (r : Rack) → Own name x (record { rack = r; history = h ++ y ∷ [] })
    own-struck r =
        record {
          begun-by = omega (arith, q.begun-by, length-append h (y ∷ []));
          accepts = rw more (accepts-more w bytes y.byte q.accepts taken);
          answers =
              ap (map (said_under name)) (drop-append-le x.since h (y ∷ []) q.begun-by)
              ∙ map-append (said_under name) (drop x.since h) (y ∷ [])
              ∙ (λ i. q.answers i ++ said i ∷ [])
              ∙ sym (map-append raise (answers_to w bytes) _)
              ∙ ap (map raise) (sym (answers-more w bytes y.byte))
              ∙ ap (λ (l : List ℕ). map raise (answers_to w l)) (sym more);
        }
