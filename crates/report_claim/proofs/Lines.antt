-- What the printing program prints of a card made from a passage meets demand 3.
-- Assumes nothing.
use Prim.Native.Nat.{ℕ, zero, suc, ◌+◌, ◌-◌, ◌≤◌, ◌<◌}
use mathlib.Core.Path.{◌≡◌, refl, sym, ◌∙◌, ap}
use mathlib.Core.List.{List, [], ◌∷◌, ◌++◌, append-nil, append_assoc}
use native.Mathlib.Nat.{add-zero}
use native.Mathlib.Decide.{dec_lt}
use native.Mathlib.Omega.{arith}
use borrow.Author.Tests.{le-leb, lt-leb}
use lib.ListN.{length, take, drop, length-append}
use Rattle.fingerprint.specs.declared.Key.{Key}
use Rattle.lists.specs.Lists.{Bytes}
use Rattle.signature.specs.declared.Signature.{Signature}
use Rattle.matcher.specs.declared.Matcher.{Matcher}
use Rattle.stage.specs.Stage.{max_taken}
use Rattle.matcher.specs.Stroke.{stroke_answer, after_stroke}
use Rattle.card_record.specs.Calls.{read_refusal, read_signature, read_taken}
use Rattle.refinement.specs.Refinement.{watch_of}
use Rattle.whole_run.specs.History.{Taken, History, bytes_of}
use Rattle.whole_run.specs.Run.{CardOf, Call, core, stroke, Run, starts, takes}
use Rattle.whole_run.specs.Strokes.{total_of}
use Rattle.whole_run.proofs.Histories.{length-bytes}
use Rattle.whole_run.proofs.Tracks.{run-tracks}
use Rattle.whole_run.proofs.Resuming.{fresh-accepted, every-stroke-taken, then_spent}
use Rattle.whole_run.proofs.Theorem.{whole_run}
use Rattle.report_lines.specs.Lines.{report_lines}
use Rattle.report_core.specs.Output.{transcript, front, output}
use Rattle.report_claim.specs.ReportClaim.{lines_from, closing, Printed}

-- a byte with the answer given at it
abbrev entry : Matcher → ℕ → Taken
entry w byte = record { byte = byte; answer = stroke_answer w byte }

take_none : (n : ℕ) → take {A = ℕ} n [] ≡ []
take_none zero = refl
take_none (suc n) = refl

closing_same :
    (a a' b b' d d' : ℕ) → a ≡ a' → b ≡ b' → d ≡ d' → closing a b d ≡ closing a' b' d'
closing_same a a' b b' d d' e f g = rw (e, f, g)

-- From a watch on that has taken n bytes: what is printed of those to come is the report of a longer history.
record Goes (card : Signature) (w : Matcher) (h : History) (n total : ℕ) (bytes : List ℕ) : Type 0 where
  calls : List Call
  watch : Matcher
  more : History
  run : Run card calls watch (h ++ more)
  taken : bytes_of more ≡ take (max_taken - n) bytes
  lines :
      transcript w total bytes
      ≡ lines_from n more ++ closing (n + length bytes) (n + length more) (total + total_of more)

module _ {key : Key} {p : List ℕ} {card : Signature} (c : CardOf key p card) where
  module _ (calls : List Call) (w : Matcher) (h : History) (n total : ℕ) (run : Run card calls w h) (size : length h ≡ n) where
    at-now : w.now.at ≡ n
    unfolding watch_of
    at-now = rw (run-tracks c run).watch (length-bytes h ∙ size)

    within : n ≤ max_taken
    within = omega (arith, (run-tracks c run).faithful.within, length-bytes h)

    -- no byte is left
    none_left : Goes card w h n total []
    unfolding transcript
    none_left =
        record {
          calls = calls;
          watch = w;
          more = [];
          run = rw (append-nil h) run;
          taken = sym (take_none (max_taken - n));
          lines = rw (at-now, add-zero n, add-zero total, le-leb n max_taken within);
        }

    -- the count is spent
    none-taken : (byte : ℕ) (bytes : List ℕ) → n ≡ max_taken → Goes card w h n total (byte ∷ bytes)
    unfolding transcript
    none-taken byte bytes e =
        let full : max_taken - n ≡ 0 = omega arith in
        record {
          calls = calls;
          watch = w;
          more = [];
          run = rw (append-nil h) run;
          taken = rw full;
          lines =
              rw (
                then_spent c run (length-bytes h ∙ size ∙ e),
                at-now,
                add-zero n,
                add-zero total,
                lt-leb (n + suc (length bytes)) max_taken (omega arith),
              );
        }

    -- a byte is taken
    one-taken :
        (byte : ℕ) (bytes : List ℕ)
        → n < max_taken
        → Goes card (after_stroke w byte) (h ++ entry w byte ∷ []) (suc n) (total + (stroke_answer w byte).comparisons) bytes
        → Goes card w h n total (byte ∷ bytes)
    unfolding transcript
    one-taken byte bytes l q =
        let rest : max_taken - n ≡ suc (max_taken - suc n) = omega arith in
        let answer = stroke_answer w byte in
        record {
          calls = q.calls;
          watch = q.watch;
          more = entry w byte ∷ q.more;
          run = rw (append_assoc h (entry w byte ∷ []) q.more) at q.run;
          taken = rw (rest, q.taken);
          lines =
              rw (every-stroke-taken c run (omega (arith, length-bytes h)))
              (ap (λ (t : ℕ). report_lines (suc t) answer ++ transcript (after_stroke w byte) (total + answer.comparisons) bytes) at-now
              ∙ ap (λ (lines : List ℕ). report_lines (suc n) answer ++ lines) q.lines
              ∙ sym (append_assoc (report_lines (suc n) answer) (lines_from (suc n) q.more) _)
              ∙ ap (λ (lines : List ℕ). lines_from n (entry w byte ∷ q.more) ++ lines)
              (closing_same (suc n + length bytes) (n + suc (length bytes)) (suc n + length q.more) (n + suc (length q.more))
              (total + answer.comparisons + total_of q.more) (total + (answer.comparisons + total_of q.more))
              (omega arith) (omega arith) (omega arith)));
        }

  goes :
      (bytes : List ℕ) (calls : List Call) (w : Matcher) (h : History) (n total : ℕ)
      → Bytes bytes
      → Run card calls w h
      → length h ≡ n
      → Goes card w h n total bytes
  goes [] calls w h n total all run size = none_left calls w h n total run size
  goes (byte ∷ bytes) calls w h n total all run size =
      elim (dec_lt n max_taken) [
        | yes l ↦
            one-taken calls w h n total run size byte bytes l
            (goes bytes (calls ++ stroke core byte ∷ []) (after_stroke w byte) (h ++ entry w byte ∷ []) (suc n)
            (total + (stroke_answer w byte).comparisons)
            (λ i k. all (suc i) (omega arith))
            (takes core byte (all 0 (omega arith)) run (every-stroke-taken c run (omega (arith, length-bytes h))))
            (length-append h (entry w byte ∷ []) ∙ omega arith))
        | no l ↦ none-taken calls w h n total run size byte bytes (omega (arith, within calls w h n total run size))
      ]

-- The whole program, from an input that begins with the record of a card made from a passage.
pub printed :
    (key : Key) (p input : List ℕ)
    → read_refusal (front input) ≡ 0
    → CardOf key p (read_signature (front input))
    → Bytes (drop (read_taken (front input)) input)
    → Printed key p input
unfolding output
printed key p input accepted card all =
    let stream = drop (read_taken (front input)) input in
    let q = goes card stream [] _ [] 0 0 all (starts (fresh-accepted card)) refl in
    record {
      calls = q.calls;
      watch = q.watch;
      history = q.more;
      run = q.run;
      taken = q.taken;
      lines =
          rw accepted
          (q.lines
          ∙ ap (λ (lines : List ℕ). lines_from 0 q.more ++ lines)
          (closing_same (0 + length stream) (length stream) (0 + length q.more) (length q.more)
          (0 + total_of q.more) (total_of q.more)
          (omega arith) (omega arith) (omega arith)));
      claim = whole_run key p (read_signature (front input)) card q.run;
    }
