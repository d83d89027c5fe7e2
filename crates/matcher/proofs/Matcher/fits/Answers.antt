-- `matcher::Matcher::fits` meets its contract: the watch is judged as one that shares its own key.
use mathlib.Core.Path.{◌∙◌, ap}
use Rattle.fingerprint.specs.declared.Key.{Key}
use Rattle.matcher.specs.Shared.{shared_fits}
use Rattle.matcher.proofs.Shared.{shared-lone}
use Rattle.matcher.proofs.Matcher.fits.Goals as goal

pub returns : goal.returns
returns c =
    c.is_some.ensures
    ∙ c.judged.ensures.fits
    ∙ ap (λ (key : Key). shared_fits key 0 c.args.self) (ap (λ p. p.key) c.of-powers.ensures)
    ∙ shared-lone c.args.self
