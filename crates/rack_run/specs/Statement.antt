-- What the one theorem on racks says of a whole list of calls (document 02, A.1): the rack that these calls alone have written hands out what the
-- list itself says (`Ledger`), to the last number.
use Rattle.std.specs.Prelude.{ℕ, ◌≤◌, ◌<◌, ◌≡◌, true, List, [], ◌∷◌, map, length, take, drop}
use Rattle.std.proofs.Math.Option.{Option, none, some}
use Rattle.fingerprint.specs.declared.Key.{Key}
use Rattle.walk.specs.declared.Answer.{Answer}
use Rattle.matcher.specs.Matcher.{fresh}
use Rattle.raising.specs.Raised.{raised_answer}
use Rattle.rack.specs.Rack.{name_count, rack_fits, rack_reports}
use Rattle.rack_run.specs.Calls.{Call, stroke, Possible, Standing, refusal_of, begun, ran, bytes_taken, under, said_under}
use Rattle.rack_run.specs.Ledger.{Tenant, Ledger, empty_ledger, ledger, refusal_due, answers_to, Accepts, own_answer, handed_out_due}

-- What the list says that a byte's reports say under a name: one answer where the name is in, none where it is out.
abbrev pub under_due : Option Tenant → List ℕ → ℕ → List Answer
under_due none bytes byte = []
under_due (some x) bytes byte = own_answer x bytes byte ∷ []

-- "what the hammer desk sees for one name is what a watch of its own, begun at c, would say of the bytes since, its starts raised by c": the
-- watch accepts each of those bytes, and at each of them the name had one report, whose answer is the watch's, raised.
pub record Own (name : ℕ) (x : Tenant) (s : Standing) : Type 0 where
  pub begun-by : x.since ≤ length s.history
  pub accepts : Accepts (fresh x.card) (drop x.since (bytes_taken s.history))
  pub answers :
      map (said_under name) (drop x.since s.history)
      ≡ map (λ a. raised_answer x.since a ∷ []) (answers_to (fresh x.card) (drop x.since (bytes_taken s.history)))

-- Where a rack stands, held against what the list of its calls says.
pub record Says (key : Key) (s : Standing) (l : Ledger) : Type 0 where
  -- the rack is no misfit
  pub fits : rack_fits s.rack ≡ true
  -- the history has the bytes taken
  pub bytes : bytes_taken s.history ≡ l.bytes
  -- each call that comes next gets the verdict that the list gives it ..
  pub refusals : (call : Call) → Possible call → refusal_of s.rack call ≡ refusal_due key l call
  -- .. and a stroke hands out the reports that the list gives it: under each name that is in one, in rising order, and their sum
  pub reports : (byte : ℕ) → byte < 256 → rack_reports s.rack byte ≡ handed_out_due key l byte
  -- so a name that is in has exactly one report at each byte taken, and a name that is out none
  pub each :
      (byte name : ℕ)
      → byte < 256
      → name < name_count
      → refusal_due key l (stroke byte) ≡ 0
      → under name (take (rack_reports s.rack byte).many (rack_reports s.rack byte).reports) ≡ under_due (l.tenant name) l.bytes byte
  -- and for each name that the list says is in, all its reports since are those of a watch of its own
  pub own : (name : ℕ) → name < name_count → (x : Tenant) → l.tenant name ≡ some x → Own name x s

-- Every list of calls on a rack that was begun with a key within limits.
abbrev pub SaysAfter : Key → List Call → Type 0
SaysAfter key calls = Says key (ran (begun key) calls) (ledger key empty_ledger calls)
