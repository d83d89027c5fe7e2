-- `fields::put` meets its contract.
use Prim.Native.Nat.{◌+◌, ◌-◌}
use native.Mathlib.Omega.{arith}
use Rattle.fields.specs.Calls.{width_of, put_at}
use Rattle.fields.proofs.Room.{told, part-written}
use Rattle.fields.proofs.put.Goals as goal

pub returns-then-reaches : goal.returns-then-reaches
unfolding put_at
returns-then-reaches c =
    let a = c.args in
    let s = a.buf.now in
    let n = c.bytes-n.result in
    let w = width_of a.width in
    let room = told s a.at c.bytes-n.ensures c.reaches.ensures c.if-reaches.true in
    rw room (part-written s a.at w (a.at + n - a.at) a.value c.write.new.field room (omega arith) c.write.ensures)

pub returns-else-reaches : goal.returns-else-reaches
unfolding put_at
returns-else-reaches c =
    let a = c.args in
    rw (told a.buf.now a.at c.bytes-n.ensures c.reaches.ensures c.if-reaches.false)
