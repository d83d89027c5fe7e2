-- The watch of a history over a card that is no misfit is none, and that of no bytes is the fresh one.
-- Assumes nothing.
use Prim.Native.Nat.{ℕ, suc, ◌≤◌, ◌<◌}
use mathlib.Core.Path.{◌≡◌, refl, sym, ◌∙◌}
use mathlib.Core.Logic.{inl, inr}
use mathlib.Core.Bool.{true}
use mathlib.Core.List.{List, [], ◌∷◌}
use native.Mathlib.Decide.{dec_le}
use native.Mathlib.Omega.{arith}
use lib.Pow.{pow_mono}
use lib.ListN.{length, take}
use Rattle.fingerprint.specs.declared.Key.{Key}
use Rattle.fingerprint.specs.Fingerprint.{extended}
use Rattle.fingerprint.proofs.Laws.{fp-below}
use Rattle.ladder.specs.Prefix.{levels, prefix_length}
use Rattle.ladder.proofs.Levels.{levels-reach}
use Rattle.ladder.specs.Ladder as ladder
use Rattle.ladder.proofs.Starts.{has_last}
use Rattle.ladder.proofs.Aged.{Aged}
use Rattle.ladder.proofs.Stages.{after-staged}
use Rattle.ladder.proofs.Even.{Even, even-last, after-even}
use Rattle.ladder.proofs.Gaps.{after-alike}
use Rattle.signature.specs.declared.Signature.{Signature}
use Rattle.signature.specs.Signature.{signature_fits}
use Rattle.stage.specs.Stage.{max_taken}
use Rattle.stage.specs.Stages.{no_stages}
use Rattle.stage.proofs.Stages.{stages-same, whole-none, no-stage-at, whole_of, stage-of}
use Rattle.matcher.specs.Matcher.{matcher_fits, fresh_refusal, blank, fresh}
use Rattle.refinement.specs.Refinement.{card_tests, summary, watch_of}
use Rattle.stage.proofs.Fit.{Fit, idle, single, several}
use Rattle.matcher.proofs.Sound.{sound-fits}
use Rattle.refinement.proofs.Summary.{by-print, summary-follows}
use Rattle.signature.proofs.Card.{SoundCard, sound-card}

-- only below k are the tested beginnings of stages i and i + 1 of different length
rises-below : (m i : ℕ) → prefix_length m i < prefix_length m (suc i) → i < levels m
rises-below m i l =
    elim (dec_le (levels m) i) [
      | yes a ↦ absurd (omega (arith, levels-reach m, pow_mono a))
      | no a ↦ omega arith
    ]

-- What is stored of starts that a stage may list is no misfit.
summary-fit :
    (key : Key) (h : List ℕ) (m i t : ℕ) (xs : List ℕ)
    → Aged m t i xs
    → Even xs
    → Fit m i t t (summary key h xs)
unfolding summary
summary-fit key h m i t [] a e = idle refl
summary-fit key h m i t (x ∷ []) a e =
    single (record {
      below = rises-below m i (omega (arith, a.old x (inl refl), a.young x (inl refl)));
      shape = refl;
      print = fp-below key (take x h);
      aged = omega (arith, a.old x (inl refl), a.young x (inl refl));
    })
summary-fit key h m i t (x ∷ y ∷ more) a e =
    let last = has_last y more in
    several (record {
      below = rises-below m i (omega (arith, a.old x (inl refl), a.young x (inl refl)));
      more = length more;
      held = refl;
      first-print = fp-below key (take x h);
      last-print = fp-below key (take (ladder.last_of y more) h);
      step-print = fp-below key _;
      first-aged = omega (arith, a.old x (inl refl), a.young x (inl refl));
      last-aged = omega (arith, a.old _ (inr last), a.young _ (inr last));
      moves = omega (arith, a.ascends.0 y (inl refl));
      ends = even-last x y more e ∙ omega arith;
    })

-- Before any byte: "a fresh one has t = 0, F_t = 0 and nothing listed".
start : (card : Signature) → blank card ≡ watch_of card []
unfolding watch_of summary ladder.after extended
start card =
    let stages : no_stages ≡ (watch_of card []).stages =
    stages-same no_stages _ whole-none (whole_of _) (λ i l. no-stage-at i ∙ sym (stage-of _ i l))
    in
    λ j. record { signature = card; now = (watch_of card []).now; stages = stages j }

module _ (card : Signature) (card-fits : signature_fits card ≡ true) where
  sound : SoundCard card
  sound = sound-card card card-fits

  pub fits : (h : List ℕ) → length h ≤ max_taken → matcher_fits (watch_of card h) ≡ true
  unfolding watch_of extended
  fits h within =
      sound-fits (watch_of card h) (record {
        card = card-fits;
        within = within;
        print = fp-below card.key (take (length h) h);
        starts = λ z. rw z;
        stage =
            λ i l.
            rw (stage-of (λ i. summary card.key h (ladder.after (card_tests card) h (length h) i)) i l)
            (summary-fit card.key h card.length i (length h) _
            ((after-staged (card_tests card) h sound.long (length h) (omega arith)).aged i)
            (after-even (card_tests card) h sound.long (length h) (omega arith) i));
        follows =
            λ i l.
            let aged = (after-staged (card_tests card) h sound.long (length h) (omega arith)).aged i in
            rw (stage-of (λ i. summary card.key h (ladder.after (card_tests card) h (length h) i)) i l)
            (summary-follows card.key h _ (λ s q. omega (arith, aged.old s q))
            (after-even (card_tests card) h sound.long (length h) (omega arith) i)
            (after-alike (card_tests card) h (by-print card.key) sound.long (length h) (omega arith) i));
      })

  pub fresh-accepted : fresh_refusal card ≡ 0
  fresh-accepted = rw card-fits

  pub fresh_start : fresh card ≡ watch_of card []
  unfolding fresh
  fresh_start = rw (fresh-accepted, fresh) (start card)
