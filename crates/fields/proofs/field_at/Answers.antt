-- `fields::field_at` meets its contract.
use Prim.Native.Nat.{◌+◌, ◌-◌}
use native.Mathlib.Omega.{arith}
use Rattle.fields.specs.Calls.{width_of}
use Rattle.fields.proofs.Room.{told, field-missing, field-there, part-read, part-bound}
use Rattle.fields.proofs.field_at.Goals as goal

pub returns-then-reaches-clause-answer : goal.returns-then-reaches-clause-answer
returns-then-reaches-clause-answer c =
    let a = c.args in
    let s = a.buf.now in
    let w = width_of a.width in
    let room = told s a.at c.bytes-n.ensures c.reaches.ensures c.if-reaches.true in
    field-there s a.at w _ room (part-read s a.at w (a.at + c.bytes-n.result - a.at) _ room (omega arith) c.read.ensures.0)

pub returns-then-reaches-clause-bound : goal.returns-then-reaches-clause-bound
returns-then-reaches-clause-bound c =
    let a = c.args in
    let s = a.buf.now in
    let w = width_of a.width in
    let room = told s a.at c.bytes-n.ensures c.reaches.ensures c.if-reaches.true in
    part-bound s a.at w (a.at + c.bytes-n.result - a.at) _ room (omega arith) c.read.ensures.1

pub returns-else-reaches-clause-answer : goal.returns-else-reaches-clause-answer
returns-else-reaches-clause-answer c =
    let a = c.args in
    field-missing a.buf.now a.at (width_of a.width) (told a.buf.now a.at c.bytes-n.ensures c.reaches.ensures c.if-reaches.false)
