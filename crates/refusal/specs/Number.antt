-- Document 01's number for every refusal ("The board's refusals"). Contracts speak of verdicts by these numbers.
use Rattle.std.specs.Prelude.{ℕ, Result, Ok, Err}
use Rattle.refusal.specs.declared.Refusal.{Refusal}
use Rattle.refusal.specs.declared.Refusal.TheVariants.{Empty, Overlong, Key, Unfinished, Surplus, Spent, NoSpace, Short, Kind, Misfit, OtherPassage, Full, NameTaken, NameAbsent, NoTrack, Broken, OutsideBells, TooWide}

abbrev pub refusal_number : Refusal → ℕ
refusal_number Empty = 1
refusal_number Overlong = 2
refusal_number Key = 3
refusal_number Unfinished = 4
refusal_number Surplus = 5
refusal_number Spent = 6
refusal_number NoSpace = 7
refusal_number Short = 8
refusal_number Kind = 9
refusal_number Misfit = 10
refusal_number OtherPassage = 11
refusal_number Full = 12
refusal_number NameTaken = 13
refusal_number NameAbsent = 14
refusal_number NoTrack = 15
refusal_number Broken = 16
refusal_number OutsideBells = 17
refusal_number TooWide = 18

-- 0 says that the call was accepted.
abbrev pub number : {A : Type 0} → Result A Refusal → ℕ
number (Ok value) = 0
number (Err refusal) = refusal_number refusal
