-- What the program's calls promise: the card is read, the lines of the stream are put into a lent buffer, and the last lines.
use Rattle.std.specs.Prelude.{ℕ, ◌*◌, ◌≡◌, Bool, cond, List, ◌++◌, length, drop, leb, eqb, Option, Some, None, Result, IfOk}
use Rattle.refusal.specs.declared.Refusal.{Refusal}
use Rattle.refusal.specs.Number.{number}
use Rattle.matcher.specs.Matcher.{fresh}
use Rattle.card_record.specs.Calls.{read_refusal, read_signature, read_taken}
use Rattle.report_lines.specs.Lines.{line_x, line_e, room}
use Rattle.report_core.specs.declared.Begun.{Begun}
use Rattle.report_core.specs.declared.Fed.{Fed}
use Rattle.report_core.specs.Output.{front}
use Rattle.report_core.specs.Progress.{Heard}

-- The card is judged on the front of the input, and its watch is fresh.
pub record Begins (input : List ℕ) (r : Result Begun Refusal) : Type 0 where
  pub verdict : number r ≡ read_refusal (front input)
  pub progress : IfOk r (λ b. b.progress ≡ record { matcher = fresh (read_signature (front input)); total = 0 })
  pub taken : IfOk r (λ b. b.taken ≡ read_taken (front input))

-- Bytes bring h: its lines stand at the buffer's front, and behind them the buffer is as it was.
pub record Feeds (h : Heard) (entry : List ℕ) (r : Fed) (exit : List ℕ) : Type 0 where
  pub verdict : number r.verdict ≡ h.refusal
  pub progress : r.progress ≡ h.progress
  pub taken : r.taken ≡ h.taken
  pub used : r.used ≡ length h.lines
  pub buffer : exit ≡ h.lines ++ drop (length h.lines) entry

-- "`X number` for a refusal .. and last `E t total`": what stands last.
unfoldable pub last_lines : ℕ → ℕ → ℕ → List ℕ
last_lines refusal t total = cond (eqb refusal 0) (line_e t total) (line_x refusal ++ line_e t total)

-- The last lines are two at the most, each with the room of one byte's: the place behind them and the buffer with them at its front, or that
-- the buffer is too small and as it was.
abbrev pub has_last_room : List ℕ → Bool
has_last_room out = leb (2 * room) (length out)

unfoldable pub last_placed : List ℕ → List ℕ → Option ℕ
last_placed out lines = cond (has_last_room out) (Some (length lines)) None

unfoldable pub last_written : List ℕ → List ℕ → List ℕ
last_written out lines = cond (has_last_room out) (lines ++ drop (length lines) out) out
