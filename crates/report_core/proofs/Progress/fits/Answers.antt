-- `report_core::Progress::fits` meets its contract: the watch's own test, and then the total's.
use Rattle.std.proofs.Common.{sym, ◌∙◌, arith}
use Rattle.matcher.proofs.Sound.{sound}
use Rattle.report_core.proofs.Progress.fits.Goals as goal

pub overflow_mul-result : goal.overflow_mul-result
overflow_mul-result c = omega (arith, (sound _ (sym c.fits.ensures ∙ c.if-fits.true)).within)
