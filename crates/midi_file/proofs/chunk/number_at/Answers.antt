-- `chunk::number_at` meets its contract: the bytes passed are the number's high bytes.
use Prim.Native.Nat.{◌+◌, ◌<◌}
use native.Mathlib.Omega.{arith}
use Rattle.midi_file.specs.File.{byte}
use Rattle.midi_file.proofs.Chunks.{counted_none, counted-more, three-bytes, part-byte}
use Rattle.midi_file.proofs.chunk.number_at.Goals as goal

pub loop-byte-init : goal.loop-byte-init
loop-byte-init c = counted_none c.args.file.now c.args.at

pub overflow_mul-number : goal.overflow_mul-number
overflow_mul-number c = omega (arith, three-bytes c.loop-byte.byte-index (omega arith), c.loop-byte.invariant.small)

pub overflow_add-number : goal.overflow_add-number
overflow_add-number c =
    let a = c.args in
    let i = c.loop-byte.byte-index in
    let small : byte a.file.now (a.at + i) < 256 = omega (arith, c.type_inv.file (a.at + i)) in
    omega (arith, part-byte a.file.now a.at a.n i (omega arith), small, three-bytes i (omega arith), c.loop-byte.invariant.small)

pub loop-byte-preserved : goal.loop-byte-preserved
loop-byte-preserved c =
    let a = c.args in
    let i = c.loop-byte.byte-index in
    rw (part-byte a.file.now a.at a.n i (omega arith))
    (counted-more a.file.now a.at c.loop-byte.number i c.loop-byte.invariant (omega (arith, c.type_inv.file (a.at + i))))
