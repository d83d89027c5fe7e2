-- `card_record::place_at` meets its contract.
use mathlib.Core.Path.{sym, ◌∙◌, ap}
use borrow.Author.Tests.{le-leb}
use Rattle.fingerprint.specs.Fingerprint.{print_of}
use Rattle.record.specs.Layout.{print_from}
use Rattle.card_record.proofs.Positions.{print-place}
use Rattle.card_record.proofs.place_at.Goals as goal

pub returns-then-i-k : goal.returns-then-i-k
unfolding print_from
returns-then-i-k c =
    let a = c.args in
    let place = print-place a.buf.now a.k a.i c.if-i-k.true in
    rw (le-leb _ _ c.if-i-k.true) (c.print_at.ensures ∙ ap print_of (sym place))
