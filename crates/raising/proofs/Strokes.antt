-- A raised watch is no misfit, takes the byte that the watch takes, and its answer and next watch are the raised ones.
-- Assumes nothing.
use Prim.Native.Nat.{ℕ, ◌+◌, ◌-◌, ◌*◌, ◌≤◌, ◌<◌}
use mathlib.Core.Path.{◌≡◌, refl, sym, ◌∙◌, ap}
use mathlib.Core.Bool.{true}
use native.Mathlib.Nat.{add-zero}
use native.Mathlib.Omega.{arith}
use borrow.Author.Tests.{lt-ltb}
use Rattle.fingerprint.specs.declared.Key.{Key}
use Rattle.fingerprint.specs.declared.Fingerprint.{Fingerprint}
use Rattle.fingerprint.specs.Fingerprint.{Below, empty, joined}
use Rattle.fingerprint.proofs.Laws.{joined-below}
use Rattle.fingerprint.proofs.Behind.{joined-none, joined-nothing}
use Rattle.fingerprint.proofs.Joins.{times-behind}
use Rattle.ladder.proofs.Levels.{levels-bound}
use Rattle.signature.specs.declared.Signature.{Signature}
use Rattle.stage.specs.declared.Mark.{Mark}
use Rattle.stage.specs.declared.Stage.{Stage}
use Rattle.matcher.specs.declared.Matcher.{Matcher}
use Rattle.walk.specs.declared.Round.{Round}
use Rattle.stage.specs.Stage.{max_taken, next_mark}
use Rattle.stage.specs.Stages.{stage_at, no_stages}
use Rattle.matcher.specs.Matcher.{matcher_fits, blank}
use Rattle.matcher.specs.Stroke.{walked, stroke_refusal, stroke_answer, after_stroke}
use Rattle.stage.proofs.Fit.{Fit, idle, single, several}
use Rattle.stage.proofs.Follows.{Follows, follows-alone}
use Rattle.matcher.proofs.Sound.{Sound, sound, sound-fits, card-of, after-taken}
use Rattle.walk.proofs.Midway.{midway-begin}
use Rattle.raising.specs.Raised.{raised_mark, raised_stage, raised_watch, raised_answer}
use Rattle.raising.proofs.Marks.{next-raised}
use Rattle.raising.proofs.Stages.{raised-none, raised-some}
use Rattle.raising.proofs.Walks.{Both, at-raised, walked-raised}

-- A base to which a watch can be raised: a mark of a stream.
pub record Base (base : Mark) : Type 0 where
  pub print : Below base.print
  pub starts : base.at ≡ 0 → base.print ≡ empty

-- A watch that has taken no bytes, behind the base's.
pub raised-blank :
    (base : Mark) (card : Signature)
    → Base base
    → raised_watch base (blank card) ≡ record { signature = card; now = base; stages = no_stages }
unfolding raised_watch raised_stage
raised-blank base card b =
    λ i. record {
      signature = card;
      now = record { at = add-zero base.at i; print = joined-nothing card.key base.print b.print i };
      stages = no_stages;
    }

module _ (key : Key) (base : Mark) (m i t : ℕ) (s : Stage) where
  fit-raised : Fit m i t t s → Fit m i (base.at + t) (base.at + t) (raised_stage key base s)
  fit-raised (idle e) = idle (raised-none key base s (ap (λ (u : Stage). u.held) e) ∙ e)
  fit-raised (single q) =
      let one : s.held ≡ 1 = ap (λ (u : Stage). u.held) q.shape in
      rw (raised-some key base s (omega arith))
      (single (record {
        below = q.below;
        shape =
            ap
            (λ (u : Stage).
            record { held = u.held; first = raised_mark key base u.first; last = raised_mark key base u.last; step = u.step })
            q.shape;
        print = joined-below key _ _ _;
        aged = omega (arith, q.aged.old, q.aged.young);
      }))
  fit-raised (several q) =
      rw (raised-some key base s (omega (arith, q.held)))
      (several (record {
        below = q.below;
        more = q.more;
        held = q.held;
        first-print = joined-below key _ _ _;
        last-print = joined-below key _ _ _;
        step-print = q.step-print;
        first-aged = omega (arith, q.first-aged.old, q.first-aged.young);
        last-aged = omega (arith, q.last-aged.old, q.last-aged.young);
        moves = q.moves;
        ends = omega (arith, q.ends);
      }))

  follows-raised : Fit m i t t s → Follows key s → Follows key (raised_stage key base s)
  follows-raised (idle e) q = rw (raised-none key base s (ap (λ (u : Stage). u.held) e)) q
  follows-raised (single r) q =
      rw (raised-some key base s (omega (arith, ap (λ (u : Stage). u.held) r.shape)))
      (rw r.shape (follows-alone key (raised_mark key base s.first) (joined-below key _ _ _)))
  follows-raised (several r) q =
      let ends : s.last.at ≡ s.first.at + (s.held - 1) * s.step.length =
      r.ends ∙ ap (λ n. s.first.at + n * s.step.length) (omega (arith, r.held))
      in
      rw (raised-some key base s (omega (arith, r.held)))
      (record {
        first = joined-below key _ _ _;
        last = joined-below key _ _ _;
        joins =
            ap (joined key base.print s.last.print) ends
            ∙ ap (λ (f : Fingerprint). joined key base.print f (s.first.at + (s.held - 1) * s.step.length)) q.joins
            ∙ sym (times-behind key s.step.print s.step.length (s.held - 1) base.print s.first.print s.first.at);
      })

module _ (base : Mark) (w : Matcher) (b : Base base) (fits : matcher_fits w ≡ true) where
  own : Sound w
  own = sound w fits

  abbrev key' : Key
  key' = w.signature.key

  pub raised-fits : base.at + w.now.at ≤ max_taken → matcher_fits (raised_watch base w) ≡ true
  unfolding raised_watch
  raised-fits within =
      sound-fits _ (record {
        card = own.card;
        within = within;
        print = joined-below key' _ _ _;
        starts = λ z. rw (b.starts (omega arith), own.starts (omega arith)) (joined-none key' w.now.at);
        stage =
            λ i l.
            rw (at-raised key' base w.stages i)
            (fit-raised key' base w.signature.length i w.now.at (stage_at w.stages i) (own.stage i l));
        follows =
            λ i l.
            rw (at-raised key' base w.stages i)
            (follows-raised key' base w.signature.length i w.now.at (stage_at w.stages i) (own.stage i l) (own.follows i l));
      })

  module _ (byte : ℕ) (room : base.at + w.now.at < max_taken) where
    taken : stroke_refusal w ≡ 0
    taken = rw (fits, lt-ltb w.now.at max_taken (omega arith))

    pub raised-taken : stroke_refusal (raised_watch base w) ≡ 0
    unfolding raised_watch
    raised-taken = rw (raised-fits (omega arith), lt-ltb (base.at + w.now.at) max_taken room)

    both : Both key' base (walked w byte) (walked (raised_watch base w) byte)
    unfolding raised_watch
    both =
        let card = card-of own in
        let size = w.signature.length in
        let round : Round = record { signature = w.signature; now = next_mark key' w.now byte } in
        rw (next-raised key' base w.now byte)
        (walked-raised base round w.now.at refl w.now w.stages refl card.long (levels-bound size card.short)
        (midway-begin size w.now.at w.stages own.stage))

    pub raised-whole : stroke_answer (raised_watch base w) byte ≡ raised_answer base.at (stroke_answer w byte)
    unfolding stroke_answer
    raised-whole = rw (taken, raised-taken) both.answer.whole

    moved :
        record {
          signature = (raised_watch base w).signature;
          now = next_mark (raised_watch base w).signature.key (raised_watch base w).now byte;
          stages = (walked (raised_watch base w) byte).stages;
        }
        ≡ raised_watch base (record { signature = w.signature; now = next_mark key' w.now byte; stages = (walked w byte).stages })
    unfolding raised_watch
    moved = λ i. record { signature = w.signature; now = next-raised key' base w.now byte i; stages = both.stages i }

    pub raised-after : after_stroke (raised_watch base w) byte ≡ raised_watch base (after_stroke w byte)
    raised-after = after-taken (raised_watch base w) byte raised-taken ∙ moved ∙ ap (raised_watch base) (sym (after-taken w byte taken))
