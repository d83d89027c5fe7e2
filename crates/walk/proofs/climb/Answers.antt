-- `walk::climb` meets its contract: the loop keeps what is still to be done, and behind it the start before the byte is tried.
use Rattle.std.proofs.Common.{◌≡◌, sym, ◌∙◌, arith}
use Rattle.walk.proofs.Rounds.{turn_begin, turn_ripe, turn_end}
use Rattle.walk.proofs.climb.Goals as goal

pub loop-i-init : goal.loop-i-init
loop-i-init c = turn_begin c.args.c c.args.shifts c.levels-k.result _ c.levels-k.ensures (omega arith) c.none.ensures

pub loop-i-preserved-then-is_ripe : goal.loop-i-preserved-then-is_ripe
loop-i-preserved-then-is_ripe c =
    let loop = c.loop-i in
    turn_ripe c.args.c c.args.shifts c.levels-k.result _ c.levels-k.ensures loop.i loop.w c.loop-i-test.true loop.invariant _
    (sym c.is_ripe.ensures ∙ c.if-is_ripe.true)
    (rw c.take_off.ensures at c.compare.ensures)

pub returns : goal.returns
returns c =
    let loop = c.loop-i in
    let none_left : loop.i ≡ 0 = omega arith in
    turn_end c.args.c c.args.shifts c.levels-k.result (record { stages = c.args.before; answer = c.none.result }) loop.w _ c.args.start c.levels-k.ensures (omega arith) c.none.ensures
    (rw none_left at loop.invariant) c.compare-2.ensures
