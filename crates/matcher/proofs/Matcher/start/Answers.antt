-- `matcher::Matcher::start` meets its contract.
use mathlib.Core.Path.{sym, ◌∙◌}
use Rattle.matcher.specs.Matcher.{fresh}
use Rattle.matcher.proofs.Matcher.start.Goals as goal

pub returns-clause-matcher : goal.returns-clause-matcher
unfolding fresh
returns-clause-matcher c = rw (sym c.fits.ensures ∙ c.if-not-fits.false) c.blank.ensures
