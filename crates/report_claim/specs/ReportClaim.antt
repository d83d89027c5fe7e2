-- Demand 3 of what the printing program prints: its lines are the reports of a list of strokes, one for each byte of the stream.
use Rattle.std.specs.Prelude.{ℕ, suc, ◌≡◌, cond, List, [], ◌∷◌, ◌++◌, leb, length, take, drop}
use Rattle.fingerprint.specs.declared.Key.{Key}
use Rattle.fingerprint.specs.Fingerprint.{agree_under}
use Rattle.ladder.specs.Claim.{Claim}
use Rattle.matcher.specs.declared.Matcher.{Matcher}
use Rattle.stage.specs.Stage.{max_taken}
use Rattle.card_record.specs.Calls.{read_signature, read_taken}
use Rattle.whole_run.specs.History.{History, bytes_of, answers_of}
use Rattle.whole_run.specs.Run.{Call, Run}
use Rattle.whole_run.specs.Strokes.{total_of}
use Rattle.report_lines.specs.Lines.{line_x, line_e, report_lines}
use Rattle.report_core.specs.Output.{front, output}

-- "`R t start` for a ring, `A t first step many` for a set aside", of each byte of a history that goes on behind n bytes.
abbrev pub lines_from : ℕ → History → List ℕ
lines_from n [] = []
lines_from n (x ∷ h) = report_lines (suc n) x.answer ++ lines_from (suc n) h

-- What stands last, of a stream of so many bytes: "`X number` for a refusal, which ends reading", 6 for a byte past those that a watch
-- takes, and "last `E t total`".
abbrev pub closing : ℕ → ℕ → ℕ → List ℕ
closing many t total = cond (leb many max_taken) [] (line_x 6) ++ line_e t total

-- What is printed of a card, the first thing in the input, and the stream behind it: the lines of a history of all its bytes, or of as many
-- as a watch takes. The history is that of a list of calls, and demand 3 holds of it.
pub record Printed (key : Key) (p input : List ℕ) : Type 0 where
  pub calls : List Call
  pub watch : Matcher
  pub history : History
  pub run : Run (read_signature (front input)) calls watch history
  pub taken : bytes_of history ≡ take max_taken (drop (read_taken (front input)) input)
  pub lines :
      output input
      ≡ lines_from 0 history ++ closing (length (drop (read_taken (front input)) input)) (length history) (total_of history)
  pub claim : Claim (agree_under key) p (bytes_of history) (answers_of history)
