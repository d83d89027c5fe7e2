-- `matcher::Matcher::judged` meets its contract.
use mathlib.Core.Path.{sym, ◌∙◌}
use Rattle.signature.proofs.Card.{sound-card}
use Rattle.matcher.proofs.Matcher.judged.Goals as goal

pub judge-requires : goal.judge-requires
judge-requires c = let card = sound-card _ (sym c.fits.ensures ∙ c.if-fits.true) in (card.long, card.short)
