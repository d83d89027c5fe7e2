-- How far a run of the printing program has come: what bytes bring it, and what is still to be printed.
use Rattle.std.specs.Prelude.{ℕ, suc, ◌+◌, ◌*◌, Bool, true, cond, ◌&&◌, List, [], ◌∷◌, ◌++◌, length, leb, eqb}
use Rattle.stage.specs.Stages.{stage_count}
use Rattle.matcher.specs.Matcher.{matcher_fits}
use Rattle.matcher.specs.Stroke.{stroke_refusal, stroke_answer, after_stroke}
use Rattle.report_lines.specs.Lines.{report_lines, room}
use Rattle.report_core.specs.declared.Progress.{Progress}
use Rattle.report_core.specs.Output.{refused_lines, transcript}

-- No byte brings more than k + 1 comparisons, and there are places for k stages.
abbrev pub most_comparisons : ℕ
most_comparisons = stage_count + 1

-- No misfit: the watch is none, and the total is one that the bytes taken can have.
abbrev pub progress_fits : Progress → Bool
progress_fits p = matcher_fits p.matcher && leb p.total (most_comparisons * p.matcher.now.at)

-- The progress behind a byte, and the lines of the byte's answer.
abbrev pub onward : Progress → ℕ → Progress
onward p byte =
    record { matcher = after_stroke p.matcher byte; total = p.total + (stroke_answer p.matcher byte).comparisons }

abbrev pub lines_at : Progress → ℕ → List ℕ
lines_at p byte = report_lines (suc p.matcher.now.at) (stroke_answer p.matcher byte)

-- What bytes bring: the progress behind those taken, how many were taken, their lines, and the number of the refusal, 0 if there was none.
pub record Heard : Type 0 where
  pub progress : Progress
  pub taken : ℕ
  pub lines : List ℕ
  pub refusal : ℕ

-- nothing more is taken
abbrev pub stopped : Progress → ℕ → Heard
stopped p refusal = record { progress = p; taken = 0; lines = []; refusal = refusal }

-- what comes behind so many bytes and their lines
abbrev pub behind : ℕ → List ℕ → Heard → Heard
behind taken lines h =
    record { progress = h.progress; taken = taken + h.taken; lines = lines ++ h.lines; refusal = h.refusal }

-- Byte after byte is taken, as long as there is room for its lines behind the `used` bytes of lines before it: until none is left, or one is
-- refused.
unfoldable pub heard_while : (ℕ → Bool) → ℕ → Progress → List ℕ → Heard
heard_while roomy used p [] = stopped p 0
heard_while roomy used p (byte ∷ bytes) =
    cond (roomy used)
    (cond (eqb (stroke_refusal p.matcher) 0)
    (behind 1 (lines_at p byte) (heard_while roomy (used + length (lines_at p byte)) (onward p byte) bytes))
    (stopped p (stroke_refusal p.matcher)))
    (stopped p 0)

-- With room for every line.
abbrev pub heard : Progress → List ℕ → Heard
heard p bytes = heard_while (λ used. true) 0 p bytes

-- In a buffer of so many bytes.
abbrev pub room_in : ℕ → ℕ → Bool
room_in size used = leb (used + room) size

-- A call: "value handed in (10)" first, then 7 where the buffer has no room for the lines of one byte, and then byte after byte as far as the
-- buffer reaches.
unfoldable pub fed : ℕ → Progress → List ℕ → Heard
fed size p bytes =
    cond (progress_fits p) (cond (room_in size 0) (heard_while (room_in size) 0 p bytes) (stopped p 7)) (stopped p 10)

-- What is still to be printed, of the bytes still to come: once something was refused, they count for nothing.
unfoldable pub pending : ℕ → Progress → List ℕ → List ℕ
pending refusal p bytes =
    cond (eqb refusal 0) (transcript p.matcher p.total bytes) (refused_lines refusal p.matcher p.total)
