-- The compact watch over any card that is no misfit is the ladder with unlimited lists: a byte takes the watch of a history to that of the
-- longer history, and the answer reads as the ladder's.
-- Assumes nothing.
use Prim.Native.Nat.{ℕ, suc, ◌+◌, ◌≤◌, ◌<◌}
use mathlib.Core.Path.{◌≡◌, sym, ◌∙◌, ap}
use mathlib.Core.Bool.{true}
use mathlib.Core.List.{List, [], ◌∷◌, ◌++◌}
use native.Mathlib.Numerals.{add-one}
use native.Mathlib.Omega.{arith}
use lib.ListN.{length, take, length-append}
use lib.Seq.{take-length, take_all}
use borrow.Author.Tests.{lt-ltb}
use Rattle.fingerprint.specs.declared.Key.{Key}
use Rattle.fingerprint.specs.declared.Fingerprint.{Fingerprint}
use Rattle.fingerprint.proofs.Laws.{fp-push}
use Rattle.ladder.specs.Ladder as ladder
use Rattle.ladder.proofs.Levels.{levels-bound}
use Rattle.ladder.proofs.Grow.{after-append}
use Rattle.ladder.proofs.Stages.{after-staged}
use Rattle.ladder.proofs.Even.{after-even}
use Rattle.ladder.proofs.Gaps.{after-alike}
use Rattle.signature.specs.declared.Signature.{Signature}
use Rattle.signature.specs.Signature.{signature_fits}
use Rattle.stage.specs.Stage.{max_taken, next_mark}
use Rattle.stage.specs.Stages.{stage_count, stage_at, stages_of}
use Rattle.stage.proofs.Stages.{stages-same, whole_of, stage-of}
use Rattle.walk.specs.Walk.{walked_from}
use Rattle.matcher.specs.Stroke.{walked, stroke_refusal, stroke_answer}
use Rattle.refinement.specs.Refinement.{card_tests, mark_in, summary, watch_of, Refines}
use Rattle.signature.proofs.Card.{SoundCard, sound-card}
use Rattle.refinement.proofs.Summary.{by-print, mark-grown, summary-grown}
use Rattle.refinement.proofs.Follow.{Scene, top, Follows}
use Rattle.refinement.proofs.Visits.{Upon, step_follows}
use Rattle.matcher.proofs.Sound.{after-taken}
use Rattle.refinement.proofs.WatchFits.{fits}

module _ (card : Signature) (card-fits : signature_fits card ≡ true) where
  abbrev key : Key
  key = card.key

  abbrev tests : ladder.Tests
  tests = card_tests card

  sound : SoundCard card
  sound = sound-card card card-fits

  module _ (h : List ℕ) (b : ℕ) where
    abbrev grown : List ℕ
    grown = h ++ b ∷ []

    grown-length : length grown ≡ suc (length h)
    grown-length = length-append h (b ∷ []) ∙ omega arith

    -- the byte as the watch meets it, and what it comes upon
    abbrev scene : Scene
    scene =
        record {
          card = card;
          history = grown;
          t = length h;
          small = levels-bound card.length sound.short;
          now = grown-length;
        }

    abbrev before : ladder.Stages
    before = ladder.after tests grown (length h)

    upon : Upon scene before
    upon =
        let l : length h ≤ length grown = omega (arith, grown-length) in
        record {
          ok = after-staged tests grown sound.long (length h) l;
          even = after-even tests grown sound.long (length h) l;
          like = after-alike tests grown (by-print key) sound.long (length h) l;
        }

    -- The watch stores the same of the longer history's first bytes.
    stored-before : (i : ℕ) → i < stage_count → stage_at (watch_of card h).stages i ≡ summary key grown (before i)
    unfolding watch_of
    stored-before i l =
        stage-of _ i l
        ∙ ap (λ (s : ladder.Stages). summary key h (s i)) (sym (after-append tests h (b ∷ []) (length h) (omega arith)))
        ∙ sym (summary-grown key h (b ∷ []) (before i) (λ s r. omega (arith, (upon.ok.aged i).old s r)))

    whole : take (suc (length h)) grown ≡ grown
    whole = take_all (suc (length h)) grown (omega (arith, grown-length))

    next-mark : next_mark key (mark_in key h (length h)) b ≡ mark_in key grown (suc (length h))
    next-mark =
        ap (λ (f : Fingerprint). record { at = suc (length h); print = f })
        (rw (take-length h, whole) (sym (fp-push key h b)))

    -- The ladder's step at this byte, and the watch's.
    abbrev stepped : ladder.Walk
    stepped = ladder.step tests grown before

    walked-follows : Follows scene (top scene) stepped (walked (watch_of card h) b)
    unfolding walked_from watch_of
    walked-follows =
        rw (next-mark, ← mark-grown key h (b ∷ []) (length h) (omega arith))
        (step_follows scene before upon sound.long _ (whole_of _) stored-before)

    -- That step leads to what the ladder lists after the byte, and to its answer.
    stepped-after : stepped.stages ≡ ladder.after tests grown (length grown)
    unfolding ladder.after
    stepped-after = rw grown-length (ap (λ (x : List ℕ). (ladder.step tests x before).stages) (sym whole))

    stepped-answer : stepped.answer ≡ ladder.answer_at tests grown (length h + 1)
    unfolding ladder.answer_at
    stepped-answer = rw add-one (ap (λ (x : List ℕ). (ladder.step tests x before).answer) (sym whole))

    stages-after :
        (walked (watch_of card h) b).stages
        ≡ stages_of (λ i. summary key grown (ladder.after tests grown (length grown) i))
    stages-after =
        stages-same _ _ walked-follows.long (whole_of _)
        (λ i l.
        walked-follows.stage i l
        ∙ ap (λ (s : ladder.Stages). summary key grown (s i)) stepped-after
        ∙ sym (stage-of _ i l))

    accepted : length h < max_taken → stroke_refusal (watch_of card h) ≡ 0
    unfolding watch_of
    accepted l = rw (fits card card-fits h (omega arith), lt-ltb (length h) max_taken l)

    watch-after :
        record {
          signature = (watch_of card h).signature;
          now = next_mark (watch_of card h).signature.key (watch_of card h).now b;
          stages = (walked (watch_of card h) b).stages;
        }
        ≡ watch_of card grown
    unfolding watch_of
    watch-after =
        let now : next_mark key (mark_in key h (length h)) b ≡ mark_in key grown (length grown) =
        next-mark ∙ ap (mark_in key grown) (sym grown-length)
        in
        λ i. record { signature = card; now = now i; stages = stages-after i }

    -- Of every card that is no misfit, made from a passage or not.
    pub refines : length h < max_taken → Refines card (card_tests card) h b
    unfolding stroke_answer
    refines l =
        record {
          accepted = accepted l;
          watch = after-taken (watch_of card h) b (accepted l) ∙ watch-after;
          answer = rw (accepted l, stroke_answer) (walked-follows.answer ∙ stepped-answer);
        }
