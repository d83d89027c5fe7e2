-- `decimal::parse` meets its contract: the digits passed make the value so far.
use mathlib.Core.Path.{sym, ◌∙◌}
use native.Mathlib.Omega.{arith}
use borrow.Author.Tests.{eqb-true, eqb-false}
use Rattle.decimal.specs.Decimal.{most_read}
use Rattle.decimal.proofs.Reading.{read_all, read-bad, read_more, low, high, too_short, too_long, good_length}
use Rattle.decimal.proofs.parse.Goals as goal
use Rattle.decimal.proofs.parse.Goals.{
  then-is_empty-via-then-is_empty,
  then-is_empty-via-else-is_empty+then-text-gt-MOST_READ,
  then-c-lt48-via-then-c-lt48,
  then-c-lt48-via-else-c-lt48+then-c-gt57,
}

pub returns-then-is_empty : goal.returns-then-is_empty
returns-then-is_empty c =
    elim c.then-is_empty.branch [
      | then-is_empty-via-then-is_empty w ↦ sym (too_short _ _ (omega (arith, eqb-true _ 0 (sym w.if-is_empty.ensures))))
      | then-is_empty-via-else-is_empty+then-text-gt-MOST_READ w ↦ sym (too_long _ _ w.if-text-gt-MOST_READ.true)
    ]

pub returns-then-c-lt48 : goal.returns-then-c-lt48
returns-then-c-lt48 c =
    sym (good_length most_read c.args.text.now (omega arith) (omega arith)
    ∙ read-bad _ _ _ c.loop-c.invariant c.loop-c-test.true
    (elim c.then-c-lt48.branch [
      | then-c-lt48-via-then-c-lt48 w ↦ low _ w.if-c-lt48.true
      | then-c-lt48-via-else-c-lt48+then-c-gt57 w ↦ high _ w.if-c-gt57.true
    ]))

pub loop-c-preserved : goal.loop-c-preserved
loop-c-preserved c = read_more _ _ _ c.loop-c.invariant c.loop-c-test.true (omega arith) (omega arith)

pub returns : goal.returns
returns c =
    sym (good_length most_read c.args.text.now (omega (arith, eqb-false _ 0 (sym c.if-is_empty.ensures))) (omega arith)
    ∙ read_all _ _ _ c.loop-c.invariant c.loop-c-test.false)
