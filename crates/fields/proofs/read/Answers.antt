-- `fields::read` meets its contract: the bytes passed, from the last down, are the number's high bytes.
use Prim.Native.Nat.{ℕ, ◌-◌, ◌<◌}
use mathlib.Core.Path.{◌≡◌, refl, ◌∙◌}
use native.Mathlib.Omega.{arith}
use Rattle.std.proofs.Common.{[], ◌∷◌, length, map, Bor}
use Rattle.std.proofs.lemmas.Iterator.Adapters.{YieldsList-from_rev_slice}
use Rattle.std.proofs.lemmas.Iterator.Consumers.{YieldsList-turn, YieldsList-end}
use Rattle.std.proofs.lemmas.List.{map-append, length-reverse, get_or-reverse, get_or_default, reverse-reverse, length_push}
use Rattle.fields.specs.Fields.{number_from}
use Rattle.fields.proofs.Numbers.{number_more, number-below, number-room}
use Rattle.fields.proofs.read.Goals as goal
use Rattle.fields.proofs.read.Goals.{In-Some}

pub loop-byte-init : goal.loop-byte-init
unfolding number_from
loop-byte-init c = record { number = refl; bound = omega arith }

-- the byte is one of the slice's, and there are less than 8 before it
turn : (c : In-Some) → (length c.loop-byte.yielded < 8) × (c.in-Some.byte.now < 256)
turn c =
    let s = c.args.field.now in
    let n = length c.loop-byte.yielded in
    let t = YieldsList-turn (YieldsList-from_rev_slice s cc) c.loop-byte.yielded _ c.loop-byte.yielded_by _ _ c.in-Some.byte c.in-Some.is c.next.ensures.steps in
    let within : n < length s = omega (arith, t.0, length-reverse s) in
    let byte = t.1 ∙ get_or-reverse s n _ within ∙ get_or_default s _ _ 0 (omega arith) in
    (omega arith, omega (arith, byte, c.type_inv.field (length s - 1 - n)))

pub overflow_mul-number : goal.overflow_mul-number
overflow_mul-number c =
    let t = turn c in
    omega (arith, number-room c.loop-byte.number _ _ c.loop-byte.invariant.bound t.1 t.0)

pub overflow_add-number : goal.overflow_add-number
overflow_add-number c =
    let t = turn (goal.at.overflow_add-number c).In-Some in
    omega (arith, number-room c.loop-byte.number _ _ c.loop-byte.invariant.bound t.1 t.0)

pub loop-byte-preserved : goal.loop-byte-preserved
loop-byte-preserved c =
    let t = turn (goal.at.loop-byte-preserved c).In-Some in
    let l = c.loop-byte in
    let b = c.in-Some.byte in
    rw (length_push l.yielded b, map-append (λ (b : Bor ℕ). b.now) l.yielded (b ∷ []))
    (record {
      number = number_more (map (λ (b : Bor ℕ). b.now) l.yielded) b.now l.number (length l.yielded) l.invariant.number;
      bound = number-below _ _ _ l.invariant.bound t.1;
    })

pub returns : goal.returns
returns c =
    let s = c.args.field.now in
    let l = c.loop-byte in
    let t = YieldsList-end (YieldsList-from_rev_slice s cc) l.yielded _ l.yielded_by _ _ c.in-None.is c.next.ensures.steps in
    let long : length l.yielded ≡ length s = t.1 ∙ length-reverse s in
    rw (← long) (rw (t.0, reverse-reverse s) at l.invariant.number, l.invariant.bound)
