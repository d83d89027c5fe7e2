-- `scanner::skip` meets its contract: what is still to be passed over leads where all of it led at first.
use Rattle.std.proofs.Common.{◌<◌, ◌≤◌, ℕ, min, length, sym, ◌∙◌, arith}
use Rattle.std.proofs.lemmas.List.{get_or-take}
use mathlib.Core.Logic.{inl, inr}
use native.Mathlib.Decide.{dec_le}
use lib.ListN.{length-take}
use Rattle.fingerprint.specs.Fingerprint.{same}
use Rattle.scanner.proofs.Skipping.{skipping_end, skipping_stop, skipping_step}
use Rattle.scanner.proofs.skip.Goals as goal

pub returns-then-eq : goal.returns-then-eq
unfolding same
returns-then-eq c =
    let i = c.loop-byte.byte-index in
    let input = c.args.input.now in
    let within : i < min (length input) c.saturating_sub-most.result = omega (arith, length-take {A = ℕ}) in
    let byte = get_or-take c.min.result input i 0 (omega arith) in
    let first = rw (c.of_byte.ensures, byte) at c.eq.ensures in
    rw (← c.saturating_sub-most.ensures) (skipping_stop c.loop-byte.invariant (omega arith) (omega arith) (sym first ∙ c.if-eq.true))

pub loop-byte-preserved : goal.loop-byte-preserved
unfolding same
loop-byte-preserved c =
    let i = c.loop-byte.byte-index in
    let input = c.args.input.now in
    let within : i < min (length input) c.saturating_sub-most.result = omega (arith, length-take {A = ℕ}) in
    let byte = get_or-take c.min.result input i 0 (omega arith) in
    let first = rw (c.of_byte.ensures, byte) at c.eq.ensures in
    let next = rw byte at c.next-mark.ensures.more in
    skipping_step c.loop-byte.invariant (omega arith) (omega arith) (sym first ∙ c.if-eq.false) _
    (next (omega (arith, c.loop-byte.invariant.room)))

pub returns : goal.returns
returns c =
    let i = c.loop-byte.byte-index in
    let past : min (length c.args.input.now) c.saturating_sub-most.result ≤ i = omega (arith, length-take {A = ℕ}) in
    rw (← c.saturating_sub-most.ensures)
    (skipping_end c.loop-byte.invariant
    (elim (dec_le c.saturating_sub-most.result i) [ yes h ↦ inl h | no h ↦ inr (omega arith) ]))
