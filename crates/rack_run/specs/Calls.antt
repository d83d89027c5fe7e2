-- Whole lists of a rack's calls, in terms of the definitions that the calls' contracts cite (document 02, A.1: "a rack that these calls alone
-- have written since it was begun").
use Rattle.std.specs.Prelude.{ℕ, ◌<◌, cond, List, [], ◌∷◌, ◌++◌, map, eqb, take}
use Rattle.fingerprint.specs.declared.Key.{Key}
use Rattle.signature.specs.declared.Signature.{Signature}
use Rattle.walk.specs.declared.Answer.{Answer}
use Rattle.rack.specs.declared.Rack.{Rack}
use Rattle.rack_report.specs.declared.Report.{Report}
use Rattle.rack_report.specs.declared.Reports.{Reports}
use Rattle.rack.specs.Rack.{name_count, rack_begun, put_in_refusal, put_in, take_out_refusal, taken_out, rack_stroke_refusal, rack_reports, after_rack_stroke}

-- The calls of a rack that was begun.
pub data Call : Type 0 where
  put-in : ℕ → Signature → Call
  take_out : ℕ → Call
  stroke : ℕ → Call

-- What a caller can hand over: any name from 0 to 65535, any card, any byte.
abbrev pub Possible : Call → Type 0
Possible (put-in name card) = name < name_count
Possible (take_out name) = name < name_count
Possible (stroke byte) = byte < 256

abbrev pub AllPossible : List Call → Type 0
AllPossible [] = Unit {0}
AllPossible (call ∷ calls) = Possible call × AllPossible calls

-- The refusal's number that a call gets, 0 where it is accepted, and the rack that it hands back.
abbrev pub refusal_of : Rack → Call → ℕ
refusal_of r (put-in name card) = put_in_refusal r name card
refusal_of r (take_out name) = take_out_refusal r name
refusal_of r (stroke byte) = rack_stroke_refusal r

abbrev pub rack_after : Rack → Call → Rack
rack_after r (put-in name card) = put_in r name card
rack_after r (take_out name) = taken_out r name
rack_after r (stroke byte) = after_rack_stroke r byte

-- A byte taken, with the reports given at it.
pub record Taken : Type 0 where
  pub byte : ℕ
  pub reports : Reports

-- A rack and its history: the bytes taken, in order, each with the reports given at it.
pub record Standing : Type 0 where
  pub rack : Rack
  pub history : List Taken

-- A stroke taken adds its byte and reports; nothing else changes the history.
abbrev pub history_after : Standing → Call → List Taken
history_after s (put-in name card) = s.history
history_after s (take_out name) = s.history
history_after s (stroke byte) =
    cond (eqb (rack_stroke_refusal s.rack) 0)
    (s.history ++ record { byte = byte; reports = rack_reports s.rack byte } ∷ [])
    s.history

abbrev pub after : Standing → Call → Standing
after s call = record { rack = rack_after s.rack call; history = history_after s call }

-- The rack that was begun with a key, and where a list of calls leads from a rack: each call gets the rack that the one before handed back.
abbrev pub begun : Key → Standing
begun key = record { rack = rack_begun key; history = [] }

unfoldable pub ran : Standing → List Call → Standing
ran s [] = s
ran s (call ∷ calls) = ran (after s call) calls

abbrev pub bytes_taken : List Taken → List ℕ
bytes_taken h = map (λ x. x.byte) h

-- The answers that the reports of one byte give under a name, in their order.
unfoldable pub under : ℕ → List Report → List Answer
under name [] = []
under name (x ∷ more) = cond (eqb x.name name) (x.answer ∷ under name more) (under name more)

abbrev pub said_under : ℕ → Taken → List Answer
said_under name x = under name (take x.reports.many x.reports.reports)
