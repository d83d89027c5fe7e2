-- What a list of calls says by itself, whatever a rack makes of it: which bytes were taken, which card each name has and since when, which calls
-- are refused, and what there is to report (document 02, A.1). No definition here looks into a rack.
use Rattle.std.specs.Prelude.{ℕ, ◌≡◌, Bool, true, false, cond, ◌&&◌, List, [], ◌∷◌, ◌++◌, map, eqb, ltb, length, drop}
use Rattle.std.proofs.Math.Option.{Option, none, some}
use Rattle.fingerprint.specs.declared.Key.{Key}
use Rattle.fingerprint.specs.Fingerprint.{same_key}
use Rattle.lists.specs.Lists.{chosen}
use Rattle.signature.specs.declared.Signature.{Signature}
use Rattle.signature.specs.Signature.{signature_fits}
use Rattle.stage.specs.Stage.{max_taken}
use Rattle.matcher.specs.declared.Matcher.{Matcher}
use Rattle.walk.specs.declared.Answer.{Answer}
use Rattle.matcher.specs.Matcher.{fresh}
use Rattle.walk.specs.Walk.{no_answer}
use Rattle.matcher.specs.Stroke.{stroke_refusal, stroke_answer, after_stroke}
use Rattle.raising.specs.Raised.{raised_answer}
use Rattle.rack_report.specs.declared.Report.{Report}
use Rattle.rack_report.specs.declared.Reports.{Reports}
use Rattle.rack.specs.Rack.{name_count, rack_places, handed_out, no_reports}
use Rattle.rack_run.specs.Calls.{Call, put-in, take_out, stroke}

-- A card that is in, and the count c at which it was put in.
pub record Tenant : Type 0 where
  pub card : Signature
  pub since : ℕ

-- What a list of calls has come to: the bytes taken, in order, and who has each name.
pub record Ledger : Type 0 where
  pub bytes : List ℕ
  pub tenant : ℕ → Option Tenant

abbrev pub empty_ledger : Ledger
empty_ledger = record { bytes = []; tenant = λ name. none }

abbrev pub given : Option Tenant → Bool
given none = false
given (some x) = true

-- The names that are in, in rising order.
unfoldable pub names_given : Ledger → List ℕ
names_given l = chosen (λ name. given (l.tenant name)) 0 name_count

-- "12 for putting a card in when 16 are in"
abbrev pub full : Ledger → Bool
full l = cond (ltb (length (names_given l)) rack_places) false true

-- "a card with another key is a misfit" (10), then 13, then 12; 14; 6.
abbrev pub refusal_due : Key → Ledger → Call → ℕ
refusal_due key l (put-in name card) =
    cond (signature_fits card && same_key card.key key)
    (cond (given (l.tenant name)) 13 (cond (full l) 12 0)) 10
refusal_due key l (take_out name) = cond (given (l.tenant name)) 0 14
refusal_due key l (stroke byte) = cond (ltb (length l.bytes) max_taken) 0 6

-- An accepted call's entry: a card put in has the count c of the bytes taken so far, one taken out is out, a stroke adds its byte.
abbrev pub entered : Ledger → Call → Ledger
entered l (put-in name card) =
    record {
      bytes = l.bytes;
      tenant = λ other. cond (eqb other name) (some (record { card = card; since = length l.bytes })) (l.tenant other);
    }
entered l (take_out name) =
    record { bytes = l.bytes; tenant = λ other. cond (eqb other name) none (l.tenant other) }
entered l (stroke byte) = record { bytes = l.bytes ++ byte ∷ []; tenant = l.tenant }

abbrev pub noted : Key → Ledger → Call → Ledger
noted key l call = cond (eqb (refusal_due key l call) 0) (entered l call) l

unfoldable pub ledger : Key → Ledger → List Call → Ledger
ledger key l [] = l
ledger key l (call ∷ calls) = ledger key (noted key l call) calls

-- A watch that has taken bytes, and its answers to them.
unfoldable pub watch_after : Matcher → List ℕ → Matcher
watch_after w [] = w
watch_after w (byte ∷ bytes) = watch_after (after_stroke w byte) bytes

unfoldable pub answers_to : Matcher → List ℕ → List Answer
answers_to w [] = []
answers_to w (byte ∷ bytes) = stroke_answer w byte ∷ answers_to (after_stroke w byte) bytes

-- The watch accepts each of the bytes.
unfoldable pub Accepts : Matcher → List ℕ → Type 0
Accepts w [] = Unit {0}
Accepts w (byte ∷ bytes) = (stroke_refusal w ≡ 0) × Accepts (after_stroke w byte) bytes

-- "what a watch of its own, begun at c, would say of the bytes since, its starts raised by c": of the byte behind these.
abbrev pub own_answer : Tenant → List ℕ → ℕ → Answer
own_answer x bytes byte =
    raised_answer x.since (stroke_answer (watch_after (fresh x.card) (drop x.since bytes)) byte)

abbrev pub answer_due : Option Tenant → List ℕ → ℕ → Answer
answer_due none bytes byte = no_answer
answer_due (some x) bytes byte = own_answer x bytes byte

-- "Reports at one byte go by rising name": one for each name that is in.
abbrev pub reports_due : Ledger → ℕ → List Report
reports_due l byte = map (λ name. record { name = name; answer = answer_due (l.tenant name) l.bytes byte }) (names_given l)

abbrev pub handed_out_due : Key → Ledger → ℕ → Reports
handed_out_due key l byte = cond (eqb (refusal_due key l (stroke byte)) 0) (handed_out (reports_due l byte)) no_reports
