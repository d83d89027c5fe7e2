-- `argument::numbers` meets its contract: the numbers of the arguments passed are small.
use Rattle.std.proofs.Common.{◌^◌, ◌<◌}
use Rattle.std.specs.List.{All}
use Rattle.decimal.specs.Decimal.{most_read}
use Rattle.argument.proofs.numbers.Given as goal

abbrev pub invariant-loop-i : goal.invariant-loop-i
invariant-loop-i g l = All (λ n. n < 10 ^ most_read) l.number-items
