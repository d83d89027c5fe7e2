-- `midi_file::event::quantity_at` meets its contract: the bytes passed make the value so far.
use Prim.Native.Nat.{◌+◌, ◌*◌, ◌^◌, ◌<◌}
use mathlib.Core.Path.{◌≡◌, ◌∙◌}
use native.Mathlib.Omega.{arith}
use lib.ListN.{length, get_or}
use Rattle.std.proofs.Common.{None, rules}
use Rattle.midi_file.proofs.Quantities.{passed_none, passed-out, passed-cut, passed-room, passed-last, passed-more, passed-moved}
use Rattle.midi_file.proofs.event.quantity_at.Goals as goal

pub loop-i-init : goal.loop-i-init
loop-i-init c = (
  λ l. absurd (omega arith),
  passed-moved _ _ _ _ _ (passed_none c.args.track.now c.args.from) _ _ (omega arith) (omega arith),
)

pub returns-in_err-byte : goal.returns-in_err-byte
returns-in_err-byte c =
    let none : c.from_residual.result ≡ None = search rules in
    none ∙ passed-cut _ _ _ _ _ c.loop-i.invariant.1 c.in_err-byte.ensures.lookup.3

-- the byte that was got, and the room for it
pub overflow_mul-result : goal.overflow_mul-result
overflow_mul-result c =
    let room : 128 * c.loop-i.value + 255 < 2 ^ 64 = passed-room _ _ _ _ _ c.loop-i.invariant.1 (omega arith) in
    omega arith

pub overflow_add-result : goal.overflow_add-result
overflow_add-result c =
    let room : 128 * c.loop-i.value + 255 < 2 ^ 64 = passed-room _ _ _ _ _ c.loop-i.invariant.1 (omega arith) in
    omega arith

pub returns-then-byte-lt128 : goal.returns-then-byte-lt128
returns-then-byte-lt128 c =
    let got = c.in_ok-byte.ensures.lookup in
    let same : c.in_ok-byte.field-0.now ≡ get_or c.args.track.now (c.args.from + c.loop-i.i) 0 = got.4 (omega arith) 0 in
    rw same (passed-last _ _ _ _ _ c.loop-i.invariant.1 (omega arith) got.3.0 (omega arith))

pub overflow_mul-value : goal.overflow_mul-value
overflow_mul-value c =
    let room : 128 * c.loop-i.value + 255 < 2 ^ 64 = passed-room _ _ _ _ _ c.loop-i.invariant.1 (omega arith) in
    omega arith

pub overflow_add-value : goal.overflow_add-value
overflow_add-value c =
    let room : 128 * c.loop-i.value + 255 < 2 ^ 64 = passed-room _ _ _ _ _ c.loop-i.invariant.1 (omega arith) in
    let got = c.in_ok-byte.ensures.lookup in
    let same : c.in_ok-byte.field-0.now ≡ get_or c.args.track.now (c.args.from + c.loop-i.i) 0 = got.4 (omega arith) 0 in
    omega (arith, c.type_inv.track (c.args.from + c.loop-i.i))

pub loop-i-preserved : goal.loop-i-preserved
loop-i-preserved c =
    let got = c.in_ok-byte.ensures.lookup in
    let at = c.args.from + c.loop-i.i in
    let same : c.in_ok-byte.field-0.now ≡ get_or c.args.track.now at 0 = got.4 (omega arith) 0 in
    let inside : at < length c.args.track.now = got.3.0 in (
      λ _. omega arith,
      rw same
          (passed-moved _ _ _ _ _
          (passed-more _ _ _ _ _ c.loop-i.invariant.1 (omega arith) inside (omega (arith, c.type_inv.track at)) (omega arith))
          _ _ (omega arith) (omega arith)),
    )

pub returns : goal.returns
returns c = passed-out _ _ _ _ _ c.loop-i.invariant.1 (omega arith)
