-- `fingerprint::Fingerprint::cut` meets its contract: the power's own residue may be left out.
use mathlib.Core.Path.{◌∙◌}
use Rattle.fingerprint.proofs.Laws.{rest-by}
use Rattle.fingerprint.proofs.Fingerprint.cut.Goals as goal

pub returns : goal.returns
returns c =
    let a = c.args in
    c.cut_by.ensures ∙ rw c.power.ensures (rest-by a.key a.self a.front a.length)
