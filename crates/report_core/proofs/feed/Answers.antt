-- `report_core::feed` meets its contract: the tests before the first turn, and then turn after turn.
use mathlib.Core.Path.{◌≡◌, sym, ◌∙◌}
use mathlib.Core.Bool.{true}
use native.Mathlib.Omega.{arith}
use borrow.Author.Tests.{not-true, not-false}
use Rattle.report_core.specs.Progress.{progress_fits}
use Rattle.report_core.proofs.Feeding.{fed-on, fed-misfit, fed-small, not-fed}
use Rattle.report_core.proofs.feed.Goals as goal

pub returns-then-not-fits : goal.returns-then-not-fits
returns-then-not-fits c =
    let misfit = sym c.fits.ensures ∙ not-true _ c.if-not-fits.true-raw in
    not-fed _ _ _ _ _ (fed-misfit _ _ _ misfit) c.unfed.ensures

pub returns-then-out-lt-ROOM : goal.returns-then-out-lt-ROOM
returns-then-out-lt-ROOM c =
    not-fed _ _ _ _ _ (fed-small _ _ _ ((let its-fitting : progress_fits c.args.progress ≡ true = sym c.fits.ensures ∙ not-false _ c.if-not-fits.false-raw in its-fitting)) (omega arith)) c.unfed-then-out-lt-ROOM.ensures

pub returns : goal.returns
returns c =
    rw (fed-on _ _ _ ((let its-fitting : progress_fits c.args.progress ≡ true = sym c.fits.ensures ∙ not-false _ c.if-not-fits.false-raw in its-fitting)) c.if-out-lt-ROOM.false) c.hear.ensures
