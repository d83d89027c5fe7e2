-- `report_loop::run` meets its contract: the front, the chunks, and the last lines.
use Rattle.report_loop.proofs.Standings.{closed}
use Rattle.report_loop.proofs.run.Goals as goal

pub returns : goal.returns
returns g c = closed _ c.in_ok-s.s _ c.in_ok-s.ensures.0.1.sent c.close.ensures
