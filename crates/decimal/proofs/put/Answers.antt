-- `decimal::put` meets its contract: the digits not yet stored, put before those that are, are all of n's.
use Prim.Native.Nat.{◌+◌, ◌-◌}
use mathlib.Core.Path.{◌≡◌, sym, ◌∙◌}
use native.Mathlib.Omega.{arith}
use lib.ListN.{length}
use Rattle.decimal.specs.Decimal.{decimal}
use Rattle.decimal.proofs.Putting.{last_digits, last-all, last-digit, put-room, put_full}
use Rattle.decimal.proofs.put.Goals as goal

pub returns-then-buf-at : goal.returns-then-buf-at
returns-then-buf-at c =
    let full = put_full c.args.buf.now c.args.at c.args.n (omega arith) in
    record { value = full.0; buf_after = full.1 }

pub loop-place-init : goal.loop-place-init
loop-place-init c =
    let a = c.args in
    let all : a.at + c.digit_count-count.result - a.at ≡ length (decimal a.n) = omega arith in
    record { within = omega arith; stored = rw (all, last-all a.n) }

pub loop-place-preserved : goal.loop-place-preserved
loop-place-preserved c =
    let l = c.loop-place in
    record { within = omega arith; stored = last-digit l.buf c.args.at l.place l.left (omega arith) ∙ l.invariant.stored }

pub returns : goal.returns
unfolding last_digits
returns c =
    let a = c.args in
    let l = c.loop-place in
    let room = put-room a.buf.now a.at a.n (omega arith) in
    let none : l.place - a.at ≡ 0 = omega arith in
    record { value = omega (arith, room.0); buf_after = rw none at l.invariant.stored ∙ sym room.1 }
