-- A watch that is no misfit is none after a byte that it takes, whatever the byte.
-- Assumes nothing.
use Prim.Native.Nat.{ℕ}
use mathlib.Core.Path.{◌≡◌, refl}
use mathlib.Core.Bool.{true}
use native.Mathlib.Omega.{arith}
use Rattle.stage.specs.Stage.{next_mark}
use Rattle.fingerprint.proofs.Laws.{pushed-below}
use Rattle.walk.specs.declared.Round.{Round}
use Rattle.walk.proofs.Midway.{walked-fit}
use Rattle.walk.proofs.WalkFollows.{walked-follows}
use Rattle.matcher.specs.declared.Matcher.{Matcher}
use Rattle.matcher.specs.Matcher.{matcher_fits}
use Rattle.matcher.specs.Stroke.{stroke_refusal, after_stroke}
use Rattle.matcher.proofs.Sound.{Sound, sound, sound-fits, card-of, taken-fits, taken-below, after-taken}

pub stroke-fits : (w : Matcher) (b : ℕ) → stroke_refusal w ≡ 0 → matcher_fits (after_stroke w b) ≡ true
stroke-fits w b e =
    let q : Sound w = sound w (taken-fits w e) in
    let card = card-of q in
    let round : Round = record { signature = w.signature; now = next_mark w.signature.key w.now b } in
    rw (after-taken w b e)
    (sound-fits _ (record {
      card = q.card;
      within = taken-below w e;
      print = pushed-below w.signature.key w.now.print b;
      starts = λ z. absurd (omega arith);
      stage = walked-fit round w.now w.stages refl card.long card.short q.print q.stage;
      follows = walked-follows round w.now w.stages card.short q.print q.follows;
    }))
