-- `decimal::digit_count` meets its contract: the digits counted and those of the rest are those of n, and one digit more.
use mathlib.Core.Path.{ap}
use native.Mathlib.Omega.{arith}
use lib.ListN.{length}
use Rattle.decimal.proofs.Digits.{decimal-one, put-length, length_more}
use Rattle.decimal.proofs.digit_count.Goals as goal

pub overflow_add-count : goal.overflow_add-count
overflow_add-count c = omega (arith, put-length c.args.n (omega arith))

pub loop-rest-preserved : goal.loop-rest-preserved
loop-rest-preserved c = omega (arith, length_more c.loop-rest.rest c.loop-rest-test.true)

pub returns : goal.returns
returns c = omega (arith, ap length (decimal-one c.loop-rest.rest (omega arith)))
