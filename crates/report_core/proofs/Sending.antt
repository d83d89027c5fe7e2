-- What a run has written stays the beginning of the output, chunk by chunk, and is all of it once the last lines are written.
-- Assumes nothing.
use Prim.Native.Nat.{ℕ, ◌+◌, ◌*◌, ◌≤◌}
use mathlib.Core.Path.{◌≡◌, refl, sym, ◌∙◌, ap}
use mathlib.Core.Logic.{◌⊎◌, inl, inr}
use mathlib.Core.Bool.{true, false}
use mathlib.Core.List.{List, [], ◌∷◌, ◌++◌, append_assoc, append-nil}
use native.Mathlib.Omega.{arith}
use lib.Dec.{ltb, eqb}
use lib.ListN.{length, drop, drop_of_length-le, length-take, length-append}
use lib.Seq.{take-append-le, drop-append-le}
use borrow.Author.Tests.{eqb-true, eqb-false, ne_eqb, le-leb, ltb-false}
use Rattle.std.specs.Prelude.{Ok, Err}
use Rattle.refusal.specs.declared.Refusal.{Refusal}
use Rattle.refusal.specs.Number.{refusal_number}
use Rattle.refusal.proofs.Distinct.{refused-some}
use Rattle.matcher.specs.Matcher.{fresh, fresh_refusal}
use Rattle.matcher.specs.Stroke.{stroke_refusal}
use Rattle.lists.proofs.Cases.{by-test}
use Rattle.lists.proofs.Laws.{and_right, and_both}
use Rattle.signature.specs.declared.Signature.{Signature}
use Rattle.signature.specs.Signature.{signature_fits}
use Rattle.matcher.proofs.FreshFits.{fresh-fits}
use Rattle.ladder.specs.Prefix.{levels}
use Rattle.record.specs.Layout.{length_field, pattern_length}
use Rattle.record.specs.Calls.{head_refusal}
use Rattle.card_record.specs.Layout.{signature_kind, signature_length, signature_at}
use Rattle.card_record.specs.Calls.{signature_least, signature_suits, read_refusal, read_signature, read_taken}
use Rattle.report_core.specs.declared.Begun.{Begun}
use Rattle.report_core.specs.declared.Progress.{Progress}
use Rattle.report_core.specs.Output.{card_bytes, front, output, transcript}
use Rattle.report_core.specs.Progress.{most_comparisons, progress_fits, onward, lines_at, heard_while, heard, pending}
use Rattle.report_core.specs.Calls.{Begins, last_lines}
use Rattle.report_core.specs.Sent.{Sent, Whole, Partly}
use Rattle.report_core.proofs.Hearing.{pending-on, pending-refused, heard-lines}

-- with room for every line, all bytes are taken unless one is refused
pub heard_all :
    (used : ℕ) (p : Progress) (bytes : List ℕ)
    → (heard_while (λ used. true) used p bytes).refusal ≡ 0
    → (heard_while (λ used. true) used p bytes).taken ≡ length bytes
unfolding heard_while
heard_all used p [] = λ z. refl
heard_all used p (byte ∷ bytes) =
    by-test (eqb (stroke_refusal p.matcher) 0)
    (λ e. rw e (λ z. omega (arith, heard_all (used + length (lines_at p byte)) (onward p byte) bytes z)))
    (λ e. rw e (λ z. absurd (eqb-false _ _ e z)))

-- what is still to be printed behind a whole chunk
heard-pending :
    (p : Progress) (bytes rest : List ℕ)
    → pending 0 p (bytes ++ rest) ≡ (heard p bytes).lines ++ pending (heard p bytes).refusal (heard p bytes).progress rest
heard-pending p bytes rest =
    let h = heard p bytes in
    pending-on p (bytes ++ rest)
    ∙ heard-lines (λ used. true) 0 p bytes rest
    ∙ ap (λ l. h.lines ++ l)
    (by-test (eqb h.refusal 0)
    (λ e. let l : length bytes ≤ h.taken = omega (arith, heard_all 0 p bytes (eqb-true h.refusal 0 e)) in
    ap (λ l. pending h.refusal h.progress (l ++ rest)) (drop_of_length-le bytes l))
    (λ e. pending-refused h.refusal h.progress _ e ∙ sym (pending-refused h.refusal h.progress rest e)))

-- a card takes no more bytes than there are
module _ (s : List ℕ) where
  head-within : (kind least : ℕ) → head_refusal kind least s ≡ 0 → length_field s + 4 ≤ length s
  unfolding head_refusal
  head-within kind least e =
      by-test (ltb (length s) 4) (λ f. absurd (omega (arith, rw f at e)))
      (λ f. by-test (ltb (length s) (length_field s + 4)) (λ g. absurd (omega (arith, rw (f, g) at e))) (λ g. ltb-false _ _ g))

  accepted-head : read_refusal s ≡ 0 → head_refusal signature_kind signature_least s ≡ 0
  unfolding read_refusal
  accepted-head e =
      by-test (eqb (head_refusal signature_kind signature_least s) 0) (λ f. eqb-true _ _ f) (λ f. rw f at e)

  read-within : read_taken s ≤ length s
  unfolding read_taken
  read-within =
      by-test (eqb (read_refusal s) 0)
      (λ e. rw (e, read_taken) (head-within signature_kind signature_least (accepted-head (eqb-true _ _ e))))
      (λ e. rw (e, read_taken) (omega arith))

  read_fits : read_refusal s ≡ 0 → signature_fits (read_signature s) ≡ true
  unfolding read_refusal read_signature
  read_fits e =
      by-test (signature_suits s)
      (λ f. rw (accepted-head e, f) (and_right (eqb (length_field s) (signature_length (levels (pattern_length s)))) (signature_fits (signature_at s)) f))
      (λ f. absurd (omega (arith, rw (accepted-head e, f) at e)))

  -- a card that is read starts a watch
  pub read-starts : read_refusal s ≡ 0 → fresh_refusal (read_signature s) ≡ 0
  read-starts e = rw (read_fits e)

-- t is 0 at a fresh watch
fresh-origin : (s : Signature) → (fresh s).now.at ≡ 0
unfolding fresh
fresh-origin s = by-test (eqb (fresh_refusal s) 0) (λ e. rw (e, fresh)) (λ e. rw (e, fresh))

-- the front of the input is that of its first chunk
front_of : (chunk rest : List ℕ) → (card_bytes ≤ length chunk) ⊎ (rest ≡ []) → front (chunk ++ rest) ≡ front chunk
front_of chunk rest (inl l) = take-append-le card_bytes chunk rest l
front_of chunk rest (inr e) = rw (e, append-nil)

-- the card is refused: nothing was written
pub sent-refused :
    (chunk : List ℕ) (refusal : Refusal) (p : Progress)
    → Begins chunk (Err refusal)
    → p.matcher.now.at ≡ 0
    → p.total ≡ 0
    → Sent chunk (refusal_number refusal) p (length chunk) 0
unfolding pending output
sent-refused chunk refusal p q at total =
    let some : eqb (refusal_number refusal) 0 ≡ false = ne_eqb _ _ (refused-some {A = Unit {0}} {v = Err refusal} refl) in
    record {
      said = [];
      all_read = refl;
      all-written = refl;
      lines = λ rest enough.
          rw (front_of chunk rest enough, ← q.verdict, some, at, total) refl;
    }

module _ (chunk : List ℕ) (b : Begun) (q : Begins chunk (Ok b)) where
  pub taken-within : b.taken ≤ length chunk
  taken-within = rw q.taken (omega (arith, read-within (front chunk), length-take card_bytes chunk))

  -- the progress of a card that is read is no misfit
  pub begun-fits : progress_fits b.progress ≡ true
  begun-fits =
      let card = read_signature (front chunk) in
      rw q.progress
      (and_both (fresh-fits card (read_fits (front chunk) (sym q.verdict)))
      (le-leb 0 (most_comparisons * (fresh card).now.at) (omega arith)))

  begun-output :
      (rest : List ℕ)
      → (card_bytes ≤ length chunk) ⊎ (rest ≡ [])
      → output (chunk ++ rest) ≡ pending 0 b.progress (drop b.taken chunk ++ rest)
  unfolding pending output
  begun-output rest enough =
      let within = drop-append-le (read_taken (front chunk)) chunk rest (omega (arith, read-within (front chunk), length-take card_bytes chunk)) in
      rw (q.progress, q.taken, front_of chunk rest enough, ← q.verdict, within, fresh-origin (read_signature (front chunk)))

  -- the card is read, and what of the stream came with it
  pub sent-first :
      let h = heard b.progress (drop b.taken chunk) in
      Sent chunk h.refusal h.progress (length chunk) (length h.lines)
  sent-first =
      record {
        said = (heard b.progress (drop b.taken chunk)).lines;
        all_read = refl;
        all-written = refl;
        lines = λ rest enough. begun-output rest enough ∙ heard-pending b.progress (drop b.taken chunk) rest;
      }

-- a chunk more
pub sent-more :
    (input : List ℕ) (p : Progress) (read written : ℕ) (chunk : List ℕ)
    → Sent input 0 p read written
    → card_bytes ≤ read
    → let h = heard p chunk in
    Sent (input ++ chunk) h.refusal h.progress (read + length chunk) (written + length h.lines)
sent-more input p read written chunk s l =
    record {
      said = s.said ++ (heard p chunk).lines;
      all_read = rw (length-append, s.all_read);
      all-written = rw (length-append, s.all-written);
      lines = λ rest enough.
          rw (append_assoc, append_assoc)
          (s.lines (chunk ++ rest) (inl (omega (arith, s.all_read))) ∙ ap (λ l. s.said ++ l) (heard-pending p chunk rest));
    }

-- the last lines
last-pending : (refusal : ℕ) (p : Progress) → pending refusal p [] ≡ last_lines refusal p.matcher.now.at p.total
unfolding pending last_lines transcript
last-pending refusal p = refl

pub sent-over :
    (input : List ℕ) (refusal : ℕ) (p : Progress) (read written : ℕ)
    → Sent input refusal p read written
    → Whole read (written + length (last_lines refusal p.matcher.now.at p.total))
sent-over input refusal p read written s =
    record {
      input = input;
      all_read = s.all_read;
      all-written =
          rw (s.all-written, ← length-append s.said)
          (ap length (ap (λ l. s.said ++ l) (sym (last-pending refusal p)) ∙ sym (s.lines [] (inr refl)) ∙ ap output (append-nil input)));
    }

-- a run that comes no further
pub sent-partly :
    (input : List ℕ) (refusal : ℕ) (p : Progress) (read written : ℕ)
    → Sent input refusal p read written
    → card_bytes ≤ read
    → Partly read written
sent-partly input refusal p read written s l =
    record {
      input = input;
      said = s.said;
      all_read = s.all_read;
      all-written = s.all-written;
      lines = λ rest. (pending refusal p rest, s.lines rest (inl (omega (arith, s.all_read))));
    }
