-- What a byte brings to the names of a rack: a report for each, how many there are, and the comparisons of all (document 02, A.1).
use Rattle.std.specs.Prelude.{ℕ, ◌+◌, ◌-◌, List, [], ◌∷◌, ◌++◌, length, replicate, Option, None, Some}
use Rattle.walk.specs.Walk.{no_answer}
use Rattle.rack_names.specs.Names.{rack_places}
use Rattle.rack_report.specs.declared.Report.{Report}
use Rattle.rack_report.specs.declared.Reports.{Reports}

-- "The comparisons at one byte are the sum over the names".
unfoldable pub comparisons_of : List Report → ℕ
comparisons_of [] = 0
comparisons_of (x ∷ more) = x.answer.comparisons + comparisons_of more

abbrev pub no_report : Report
no_report = record { name = 0; answer = no_answer }

-- as an array has them: the rest is 0
unfoldable pub filled : List Report → List Report
filled reports = reports ++ replicate (rack_places - length reports) no_report

-- What a stroke hands out: the reports, how many there are, and all their comparisons.
abbrev pub handed_out : List Report → Reports
handed_out reports =
    record { reports = filled reports; many = length reports; comparisons = comparisons_of reports }

abbrev pub no_reports : Reports
no_reports = record { reports = replicate rack_places no_report; many = 0; comparisons = 0 }

-- "whether a start rang, and which" (document 01): the start, or a number of the caller's where none rang.
abbrev pub start_or : ℕ → Option ℕ → ℕ
start_or otherwise None = otherwise
start_or otherwise (Some start) = start
