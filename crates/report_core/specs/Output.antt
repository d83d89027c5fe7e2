-- What the printing program prints (document 01, "The printing program"), as a function of what it reads.
use Rattle.std.specs.Prelude.{ℕ, suc, ◌+◌, cond, List, [], ◌∷◌, ◌++◌, take, drop, eqb}
use Rattle.matcher.specs.declared.Matcher.{Matcher}
use Rattle.matcher.specs.Matcher.{fresh}
use Rattle.matcher.specs.Stroke.{stroke_refusal, stroke_answer, after_stroke}
use Rattle.card_record.specs.Places.{longest_signature}
use Rattle.card_record.specs.Calls.{read_refusal, read_signature, read_taken}
use Rattle.report_lines.specs.Lines.{line_x, line_e, report_lines}

-- "last `E t total`, total being all comparisons"
abbrev pub last_line : Matcher → ℕ → List ℕ
last_line w total = line_e w.now.at total

-- "`X number` for a refusal, which ends reading", and the last line
abbrev pub refused_lines : ℕ → Matcher → ℕ → List ℕ
refused_lines refusal w total = line_x refusal ++ last_line w total

-- What is printed from a watch on that made so many comparisons, of the bytes still to come: for each byte the lines of its answer, until a byte
-- is refused or none is left.
unfoldable pub transcript : Matcher → ℕ → List ℕ → List ℕ
transcript w total [] = last_line w total
transcript w total (byte ∷ bytes) =
    cond (eqb (stroke_refusal w) 0)
    (report_lines (suc w.now.at) (stroke_answer w byte)
    ++ transcript (after_stroke w byte) (total + (stroke_answer w byte).comparisons) bytes)
    (refused_lines (stroke_refusal w) w total)

-- "The card is judged on the first 98 bytes, the longest card record, or on all the input if that is less."
abbrev pub card_bytes : ℕ
card_bytes = longest_signature

abbrev pub front : List ℕ → List ℕ
front input = take card_bytes input

-- The whole program: "a card record, then the stream to its end". "After a refused card the last line is `E 0 0`."
unfoldable pub output : List ℕ → List ℕ
output input =
    cond (eqb (read_refusal (front input)) 0)
    (transcript (fresh (read_signature (front input))) 0 (drop (read_taken (front input)) input))
    (line_x (read_refusal (front input)) ++ line_e 0 0)
