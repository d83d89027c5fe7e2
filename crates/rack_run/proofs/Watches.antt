-- A card in a rack is a watch of its own: it is no misfit and takes the byte that the rack takes, and the place is sound behind that byte.
-- Assumes nothing.
use Prim.Native.Nat.{ℕ, suc, ◌<◌}
use mathlib.Core.Path.{◌≡◌}
use mathlib.Core.Bool.{true, false}
use native.Mathlib.Omega.{arith}
use borrow.Author.Tests.{lt-ltb}
use Rattle.ladder.proofs.Levels.{levels-bound}
use Rattle.lists.proofs.Laws.{every-at}
use Rattle.signature.proofs.Card.{sound-card}
use Rattle.stage.specs.Stage.{max_taken, next_mark}
use Rattle.stage.specs.Stages.{stage_count, stages_fit}
use Rattle.stage.proofs.Follows.{shape_of, last_of}
use Rattle.matcher.specs.declared.Matcher.{Matcher}
use Rattle.matcher.specs.Matcher.{matcher_fits, moved}
use Rattle.matcher.specs.Stroke.{walked, stroke_refusal}
use Rattle.matcher.proofs.Sound.{sound, sound-fits, stages-fit, after-taken}
use Rattle.matcher.proofs.StrokeFits.{stroke-fits}
use Rattle.rack_place.specs.declared.Place.{Place}
use Rattle.rack.specs.declared.Rack.{Rack}
use Rattle.rack.specs.Rack.{is_free, watch_at, struck_place}
use Rattle.rack_run.proofs.Sound.{SoundPlace, SoundRack}
use Rattle.rack_run.proofs.From.{walked_from_lem}

module _ (r : Rack) (q : SoundRack r) (p : Place) (own : SoundPlace r.key r.now.at p) where
  abbrev watch : Matcher
  watch = watch_at r.now p

  pub watch-fits : matcher_fits (watch_at r.now p) ≡ true
  watch-fits =
      sound-fits watch
      (record {
        card = own.card;
        within = q.now.within;
        print = q.now.print;
        starts = q.now.starts;
        stage = λ i l. shape_of _ _ _ i _ (every-at _ stage_count own.stages i l);
        follows = λ i l. last_of _ _ _ i _ (every-at _ stage_count own.stages i l);
      })

  module _ (byte : ℕ) (room : r.now.at < max_taken) where
    pub watch-taken : stroke_refusal (watch_at r.now p) ≡ 0
    watch-taken = rw (watch-fits, lt-ltb r.now.at max_taken room)

    walked-fits : stages_fit p.signature.key p.signature.length (suc r.now.at) (walked watch byte).stages ≡ true
    walked-fits =
        let w : Matcher = moved watch (next_mark p.signature.key r.now byte) (walked watch byte).stages in
        let fits : matcher_fits w ≡ true = rw (after-taken watch byte watch-taken) at (stroke-fits watch byte watch-taken) in
        stages-fit w (sound w fits)

    -- a place with a card, once the byte was taken
    pub struck-used :
        is_free p ≡ false
        → struck_place r.now byte p
        ≡ record { name = p.name; since = p.since; signature = p.signature; stages = (walked (watch_at r.now p) byte).stages }
    unfolding struck_place
    struck-used e = rw (e, after-taken watch byte watch-taken)

    pub struck-sound : is_free p ≡ false → SoundPlace r.key (suc r.now.at) (struck_place r.now byte p)
    struck-sound e =
        rw (struck-used e)
        (record {
          card = own.card;
          keyed = own.keyed;
          since = omega (arith, own.since);
          stages = walked-fits;
          from = walked_from_lem p.since watch byte (levels-bound _ (sound-card p.signature own.card).short) own.since own.from;
        })
