-- `report_loop::open` meets its contract: the card is judged, and what stands behind it is passed.
use Rattle.std.proofs.Common.{refl, arith}
use Rattle.report_core.proofs.Sending.{taken-within, begun-fits}
use Rattle.report_loop.proofs.Passing.{all_of}
use Rattle.report_loop.proofs.Standings.{opened-refused, opened}
use Rattle.report_loop.proofs.open.Goals as goal

pub slice_bounds-pass-count : goal.slice_bounds-pass-count
slice_bounds-pass-count g c = let within = taken-within _ _ c.in-Ok.ensures in omega (arith, within)

pub slice_bounds-pass-start : goal.slice_bounds-pass-start
slice_bounds-pass-start g c = let within = taken-within _ _ c.in-Ok.ensures in omega (arith, within)

pub pass-requires : goal.pass-requires
pass-requires g c = record { fits = begun-fits _ _ c.in-Ok.ensures; few = omega arith }

pub returns-in-Ok : goal.returns-in-Ok
returns-in-Ok g c = opened _ _ c.in-Ok.ensures c.requires _ refl refl refl refl _ (rw all_of at c.pass.ensures)

pub returns-in-Err : goal.returns-in-Err
returns-in-Err g c = opened-refused _ _ _ c.in-Err.ensures refl c.none.ensures refl refl refl
