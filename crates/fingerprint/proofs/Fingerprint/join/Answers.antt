-- `fingerprint::Fingerprint::join` meets its contract: the power's own residue may be left out.
use mathlib.Core.Path.{◌∙◌}
use Rattle.fingerprint.proofs.Laws.{join_by}
use Rattle.fingerprint.proofs.Fingerprint.join.Goals as goal

pub returns : goal.returns
returns c =
    let a = c.args in
    c.join_by.ensures ∙ rw c.power.ensures (join_by a.key a.self a.other a.length)
