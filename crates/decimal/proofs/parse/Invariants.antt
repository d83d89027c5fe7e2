-- `decimal::parse` meets its contract: the digits passed make the value so far.
use Rattle.decimal.proofs.Reading.{Read}
use Rattle.decimal.proofs.parse.Given as goal

abbrev pub invariant-loop-c : goal.invariant-loop-c
invariant-loop-c l = Read l.text l.value l.c-index
