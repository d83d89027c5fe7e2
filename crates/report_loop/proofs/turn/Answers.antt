-- `report_loop::turn` meets its contract: a chunk that was read is counted, and then passed.
use Rattle.std.proofs.Common.{refl, arith, rules, ◌≤◌, length}
use Rattle.report_core.proofs.Hearing.{fits-within}
use Rattle.report_loop.proofs.Standings.{passes}
use Rattle.report_loop.proofs.turn.Goals as goal

pub overflow_add-read : goal.overflow_add-read
overflow_add-read g c =
    let within : c.in_ok-n.n ≤ length c.read.new.buf = search rules in
    omega (arith, c.requires.near, fits-within _ c.requires.sound.fits, within)

pub returns : goal.returns
returns g c =
    let x = c.in_ok-n.ensures.cases in let y = c.in_ok-n.ensures.variant in
    let within : c.in_ok-n.n ≤ length c.read.new.buf = search rules in
    passes _ _ c.requires _ _ _ within refl c.pass.ensures
