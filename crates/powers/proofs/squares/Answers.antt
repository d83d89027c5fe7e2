-- `powers::squares` meets its contract: the loop doubles the exponent.
use native.Mathlib.Omega.{arith}
use Rattle.std.proofs.lemmas.List.{length-take-le}
use Rattle.fingerprint.specs.declared.Power.{Power}
use Rattle.ladder.proofs.Levels.{levels-bound}
use Rattle.powers.proofs.Doubling.{doubling-step}
use Rattle.powers.proofs.Digits.{table_filled}
use Rattle.powers.proofs.squares.Goals as goal

pub slice_bounds-squares-end : goal.slice_bounds-squares-end
slice_bounds-squares-end c = omega (arith, c.levels.ensures, levels-bound c.args.most c.requires)

pub slice_bounds-place-items-end : goal.slice_bounds-place-items-end
slice_bounds-place-items-end c = omega (arith, length-take-le {A = Power}, c.levels.ensures, levels-bound c.args.most c.requires)

pub loop-place-preserved : goal.loop-place-preserved
loop-place-preserved c =
    let loop = c.loop-place in
    rw c.squared-square.ensures (doubling-step _ _ _ _ _ loop.invariant c.loop-place-test.true)

pub returns : goal.returns
returns c =
    let loop = c.loop-place in
    table_filled c.args.key c.args.most _ loop.place-index loop.place-items loop.square c.none-squares.result c.none-squares.ensures
    (omega (arith, c.levels.ensures)) (omega (arith, c.levels.ensures, levels-bound c.args.most c.requires))
    loop.invariant c.loop-place-test.false
