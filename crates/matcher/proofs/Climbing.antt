-- What `climb` makes of a watch that takes a byte, with the powers of its card's key: its walk.
-- Assumes nothing.
use Prim.Native.Nat.{ℕ, ◌≤◌, ◌<◌}
use mathlib.Core.Path.{◌≡◌, refl, ◌∙◌}
use mathlib.Core.List.{List}
use Rattle.fingerprint.specs.declared.Key.{Key}
use Rattle.fingerprint.specs.declared.Power.{Power}
use Rattle.powers.specs.Powers.{Shifts}
use Rattle.signature.specs.Signature.{max_length}
use Rattle.stage.specs.declared.Mark.{Mark}
use Rattle.stage.specs.Stage.{max_taken, next_mark}
use Rattle.walk.specs.declared.Walk.{Walk}
use Rattle.walk.specs.Climb.{walked_by}
use Rattle.walk.proofs.Climbs.{climbs}
use Rattle.matcher.specs.declared.Matcher.{Matcher}
use Rattle.matcher.specs.Stroke.{walked, stroke_refusal}
use Rattle.matcher.proofs.Sound.{sound, card-of, shapes-fit, taken-fits, taken-below}

pub climbed :
    (w : Matcher) (b : ℕ)
    → stroke_refusal w ≡ 0
    → (key : Key)
    → key ≡ w.signature.key
    → (shifts : List Power)
    → (w.signature.length ≤ max_length → Shifts key w.signature.length shifts)
    → (now : Mark)
    → (w.now.at < max_taken → now ≡ next_mark w.signature.key w.now b)
    → (r : Walk)
    → r ≡ walked_by shifts (record { signature = w.signature; now = now }) w.now w.stages
    → r ≡ walked w b
climbed w b taken key own shifts table now more r f =
    let q = sound w (taken-fits w taken) in
    let card = card-of q in
    f
    ∙ rw (more (taken-below w taken))
    (climbs shifts _ w.now w.stages (rw own at (table card.short)) card.long card.short refl q.within (shapes-fit w q))
