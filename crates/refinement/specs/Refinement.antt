-- What a watch stores of a history, and how its answers read as those of the ladder with unlimited lists.
use Rattle.std.specs.Prelude.{ℕ, suc, ◌+◌, ◌-◌, ◌≡◌, Option, None, Some, List, [], ◌∷◌, ◌++◌, map, length, take, get_or}
use Rattle.std.proofs.Math.Option as math
use Rattle.fingerprint.specs.declared.Key.{Key}
use Rattle.fingerprint.specs.Fingerprint.{same, empty, fp, agree_under}
use Rattle.ladder.specs.Prefix.{block}
use Rattle.ladder.specs.Ladder as ladder
use Rattle.signature.specs.declared.Signature.{Signature}
use Rattle.stage.specs.declared.Mark.{Mark}
use Rattle.stage.specs.declared.Stage.{Stage}
use Rattle.matcher.specs.declared.Matcher.{Matcher}
use Rattle.stage.specs.declared.Progression.{Progression}
use Rattle.walk.specs.declared.Answer.{Answer}
use Rattle.stage.specs.Stages.{stages_of}
use Rattle.stage.specs.Stage.{no_stage, alone}
use Rattle.matcher.specs.Stroke.{stroke_refusal, stroke_answer, after_stroke}

-- A place in a history, with the fingerprint of the bytes before it.
abbrev pub mark_in : Key → List ℕ → ℕ → Mark
mark_in key h s = record { at = s; print = fp key (take s h) }

-- What a watch stores of a stage's starts: held, first, F_first, last, F_last, step, step print.
unfoldable pub summary : Key → List ℕ → List ℕ → Stage
summary key h [] = no_stage
summary key h (x ∷ []) = alone (mark_in key h x)
summary key h (x ∷ y ∷ more) =
    record {
      held = suc (suc (length more));
      first = mark_in key h x;
      last = mark_in key h (ladder.last_of y more);
      step = record { length = y - x; print = fp key (block h x (y - x)) };
    }

-- The tests of a passage: blocks are compared with its beginnings, and with each other, by fingerprint under the key.
abbrev pub passage_tests : Key → List ℕ → ladder.Tests
passage_tests key p = ladder.tests_of (agree_under key) p

-- The tests of a card: "The card holds m, r and the k + 1 fingerprints", so a block of |P_i| bytes matches P_i where its fingerprint under
-- r is the card's i-th, and two blocks of one length are alike where their fingerprints are equal.
abbrev pub card_tests : Signature → ladder.Tests
card_tests card =
    record {
      length = card.length;
      matches = λ i bytes. same (fp card.key bytes) (get_or card.prints i empty);
      alike = agree_under card.key;
    }

-- The watch over a card that has taken the bytes h: the card, t with F_t, and what the stages of the ladder with the card's tests list.
unfoldable pub watch_of : Signature → List ℕ → Matcher
watch_of card h =
    record {
      signature = card;
      now = mark_in card.key h (length h);
      stages = stages_of (λ i. summary card.key h (ladder.after (card_tests card) h (length h) i));
    }

-- "Whether a start rang, and which": document 01's value for every case.
abbrev pub read_ring : Option ℕ → math.Option ℕ
read_ring None = math.none
read_ring (Some start) = math.some start

abbrev pub read_set : Progression → ladder.Progression
read_set x = record { first = x.first; step = x.step; many = x.many }

-- An answer of a watch as one of the ladder: of the sets, as many as `asides` says.
abbrev pub read_answer : Answer → ladder.Answer
read_answer a =
    record { ring = read_ring a.ring; aside = map read_set (take a.asides a.sets); comparisons = a.comparisons }

-- The byte b behind the history h: the watch over the card takes it, becomes the watch of the longer history, and answers as the ladder
-- with unlimited lists and these tests does: the card's own (`card_tests`) for every card that is no misfit, and for a card made from a
-- passage the passage's (`passage_tests`) too.
pub record Refines (card : Signature) (tests : ladder.Tests) (h : List ℕ) (b : ℕ) : Type 0 where
  pub accepted : stroke_refusal (watch_of card h) ≡ 0
  pub watch : after_stroke (watch_of card h) b ≡ watch_of card (h ++ b ∷ [])
  pub answer : read_answer (stroke_answer (watch_of card h) b) ≡ ladder.answer_at tests (h ++ b ∷ []) (length h + 1)
