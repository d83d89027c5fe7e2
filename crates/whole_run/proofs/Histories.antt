-- A history whose answers are those of the ladder with unlimited lists: the empty one, and one with a byte and its answer more.
-- Assumes nothing.
use Prim.Native.Nat.{ℕ, zero, suc, ◌+◌, ◌≤◌, ◌<◌}
use mathlib.Core.Path.{◌≡◌, sym, ◌∙◌, ap}
use mathlib.Core.List.{List, [], ◌∷◌, ◌++◌, map-append}
use native.Mathlib.Decide.{dec_le}
use native.Mathlib.Omega.{arith}
use lib.ListN.{length, length-append, length-map, get_or-append}
use lib.Seq.{get_or_at}
use Rattle.fingerprint.specs.declared.Key.{Key}
use Rattle.ladder.specs.Ladder as ladder
use Rattle.ladder.proofs.Grow.{answer-append}
use Rattle.stage.specs.Stage.{max_taken}
use Rattle.refinement.specs.Refinement.{passage_tests, read_answer}
use Rattle.whole_run.specs.History.{Taken, History, bytes_of, answers_of}

-- It has no more bytes than a watch takes, and its answer at each byte is the ladder's.
pub record Faithful (key : Key) (p : List ℕ) (h : History) : Type 0 where
  pub within : length (bytes_of h) ≤ max_taken
  pub answers :
      (n : ℕ) → 1 ≤ n → n ≤ length h → answers_of h n ≡ ladder.answer_at (passage_tests key p) (bytes_of h) n

-- a byte for each entry
pub length-bytes : (h : History) → length (bytes_of h) ≡ length h
length-bytes h = length-map h _

pub bytes-more : (h : History) (x : Taken) → bytes_of (h ++ x ∷ []) ≡ bytes_of h ++ x.byte ∷ []
bytes-more h x = map-append _ h (x ∷ [])

pub faithful-none : (key : Key) (p : List ℕ) → Faithful key p []
faithful-none key p = record { within = omega arith; answers = λ n low high. absurd (omega arith) }

module _
    (key : Key)
    (p : List ℕ)
    (h : History)
    (x : Taken)
    (answer : read_answer x.answer ≡ ladder.answer_at (passage_tests key p) (bytes_of h ++ x.byte ∷ []) (length (bytes_of h) + 1))
    (faithful : Faithful key p h)
  where
    length_more : length (h ++ x ∷ []) ≡ suc (length h)
    length_more = length-append h (x ∷ []) ∙ omega arith

    answers-more :
        (n : ℕ)
        → 1 ≤ n
        → n ≤ length (h ++ x ∷ [])
        → answers_of (h ++ x ∷ []) n ≡ ladder.answer_at (passage_tests key p) (bytes_of h ++ x.byte ∷ []) n
    answers-more zero low high = absurd (omega arith)
    answers-more (suc n) low high =
        elim (dec_le (suc n) (length h)) [
          | yes l ↦
              rw get_or-append
              (faithful.answers (suc n) low l
              ∙ sym (answer-append (passage_tests key p) (bytes_of h) (x.byte ∷ []) (suc n) (omega (arith, length-bytes h))))
          | no l ↦
              let last : length h ≡ n = omega (arith, length_more) in
              rw (get_or_at h x [] _ n last) (answer ∙ ap (ladder.answer_at (passage_tests key p) _) (omega (arith, length-bytes h)))
        ]

    pub faithful-more : length (bytes_of h) < max_taken → Faithful key p (h ++ x ∷ [])
    faithful-more l =
        record {
          within = omega (arith, length_more, length-bytes h, length-bytes (h ++ x ∷ []));
          answers = λ n low high. rw (bytes-more h x) (answers-more n low high);
        }
