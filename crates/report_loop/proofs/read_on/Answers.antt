-- `report_loop::read_on` meets its contract: each turn keeps what was written the output of what was read, and brings t nearer to its limit.
use Rattle.std.proofs.lemmas.Result.{err_from_is_err_and}
use Rattle.report_core.proofs.Hearing.{fits-within}
use Rattle.report_loop.proofs.Standings.{came, nearer, broken}
use Rattle.report_loop.proofs.read_on.Goals as goal

pub returns-in_err-s : goal.returns-in_err-s
returns-in_err-s g c =
    let st = c.loop-s.invariant.1 in
    let ready = st.ready c.loop-s-test.true in
    let p = err_from_is_err_and c.from_residual.result c.from_residual.ensures.1 in
    rw (p.1, p.2)
    (broken _ c.turn.new.input ready.0 c.in_err-s.field-0.0 c.loop-s.invariant.0 ready.1 st.sent c.in_err-s.ensures)

pub loop-s-smaller : goal.loop-s-smaller
loop-s-smaller g c =
    let ready = c.loop-s.invariant.1.ready c.loop-s-test.true in
    rw c.loop-s-test.true (nearer _ c.turn.new.input ready.0 c.in_ok-s.s c.in_ok-s.ensures (fits-within _ ready.0.sound.fits))

pub loop-s-preserved : goal.loop-s-preserved
loop-s-preserved g c =
    let st = c.loop-s.invariant.1 in
    let ready = st.ready c.loop-s-test.true in
    came _ c.turn.new.input ready.0 c.in_ok-s.s c.in_ok-s.ensures c.loop-s.invariant.0 ready.1 st.sent
