-- Where a run stands: at its begin, behind each chunk, and at its end, what was written is the output of what was read.
-- Assumes nothing.
use Prim.Native.Nat.{ℕ, ◌+◌, ◌-◌, ◌*◌, ◌≤◌, ◌<◌}
use mathlib.Core.Path.{◌≡◌, refl, sym, ◌∙◌}
use mathlib.Core.Bool.{Bool, true, false, ◌&&◌, cond}
use mathlib.Core.List.{List, [], ◌++◌}
use native.Mathlib.Omega.{arith}
use lib.Dec.{ltb, eqb, leb}
use lib.ListN.{length, take, drop}
use lib.Seq.{length-take-le}
use borrow.Author.Tests.{ltb-true, leb-true, eqb-true}
use Rattle.std.specs.Prelude.{Result, Ok, Err}
use Rattle.refusal.specs.declared.Refusal.{Refusal}
use Rattle.refusal.specs.Number.{number, refusal_number}
use Rattle.refusal.proofs.Distinct.{refused-some}
use Rattle.matcher.specs.Matcher.{no_matcher}
use Rattle.lists.proofs.Laws.{and_left, and_right}
use Rattle.lists.proofs.Cases.{by-test}
use Rattle.stage.specs.Stage.{max_taken}
use Rattle.report_core.specs.declared.Progress.{Progress}
use Rattle.report_core.specs.declared.Begun.{Begun}
use Rattle.report_core.specs.Output.{card_bytes, output}
use Rattle.report_core.specs.Calls.{Begins}
use Rattle.report_core.specs.Sent.{Sent, Partly}
use Rattle.report_core.proofs.Hearing.{fits-within, heard-later}
use Rattle.report_core.proofs.Sending.{heard_all, sent-refused, sent-first, sent-more, sent-over, sent-partly}
use Rattle.report_loop.specs.declared.Failure.{Failure}
use Rattle.report_loop.specs.declared.Failure.TheVariants.{Unreadable, Unwritable}
use Rattle.report_loop.specs.declared.Counts.{Counts}
use Rattle.report_loop.specs.declared.State.{State}
use Rattle.report_loop.specs.State.{buffer_size, Sound, Took, Went, Passed, Ready, Came, Turned, Standing, Opened, Stands, Broken, Closed, Over}

-- a run's count and state, put in other words
sent-as :
    {input : List ℕ} {refusal read written : ℕ} {p : Progress} (s : State)
    → Sent input refusal p read written
    → number s.verdict ≡ refusal
    → s.progress ≡ p
    → s.counts.read ≡ read
    → s.counts.written ≡ written
    → Sent input (number s.verdict) s.progress s.counts.read s.counts.written
sent-as s q v e r w = rw (v, e, r, w) q

-- no more is written than the last t can bring
most-written : {p : Progress} {written : ℕ} → Sound p written → written ≤ buffer_size * max_taken
most-written {p} q = omega (arith, q.few, fits-within p q.fits)

-- the card is refused
pub opened-refused :
    (chunk : List ℕ) (refusal : Refusal) (s : State)
    → Begins chunk (Err refusal)
    → s.verdict ≡ Err refusal
    → s.progress.matcher ≡ no_matcher
    → s.progress.total ≡ 0
    → s.counts ≡ record { read = length chunk; written = 0 }
    → s.more ≡ false
    → Opened chunk (Ok s)
opened-refused chunk refusal s q v e z k m =
    rw (v, k, m) (
      record {
        sent = sent-refused chunk refusal s.progress q (rw e) z;
        few = omega arith;
        ready = λ more. let z : ◌≡◌ {A = ℕ} 0 1 = cc in absurd (omega arith);
      },
      by-test (leb card_bytes (length chunk) && eqb (refusal_number refusal) 0)
          (λ both. absurd (refused-some {A = Unit {0}} {v = Err refusal} refl (eqb-true _ _ (and_right (leb card_bytes (length chunk)) _ both)))) (λ f. sym f),
    )

-- the card is read, and what stands behind it was passed
module _ (chunk : List ℕ) (b : Begun) (q : Begins chunk (Ok b)) (short : length chunk ≤ card_bytes) (first : State)
    (more : first.more ≡ leb card_bytes (length chunk)) (progress : first.progress ≡ b.progress)
    (read : first.counts.read ≡ length chunk) (none : first.counts.written ≡ 0) where
  went : (r : State) → Went first (drop b.taken chunk) r → Standing chunk r
  went r w =
      let t = rw (progress, none) at w.took in
      record {
        sent = sent-as r (sent-first chunk b q) t.verdict t.progress (w.read ∙ read) (omega (arith, t.written));
        few = most-written t.sound;
        ready = λ m.
            let both : (leb card_bytes (length chunk) && eqb (number r.verdict) 0) ≡ true = rw more at (sym w.goes ∙ m) in (
              record {
                sound = t.sound;
                accepted = eqb-true _ _ (and_right (leb card_bytes (length chunk)) _ both);
                near = omega (arith, w.read, read);
              },
              omega (arith, w.read, read, leb-true _ _ (and_left (leb card_bytes (length chunk)) _ both)),
            );
      }

  pub opened : (r : Result State Failure) → Passed first (drop b.taken chunk) r → Opened chunk r
  opened (Ok r) w = (went r w, rw more at w.goes)
  opened (Err (Unreadable counts)) w = let z : ◌≡◌ {A = ℕ} 0 1 = cc in absurd (omega arith)
  opened (Err Unwritable) w = tt

-- how far the end can be: t has a limit
pub distance : Bool → ℕ → ℕ
distance more t = cond more (max_taken + 1 - t) 0

module _ (s : State) (input : List ℕ) (ready : Ready s) where
  -- a chunk without a refusal: t has risen by its bytes
  risen :
      (r : State) (n : ℕ) → n ≤ length input → Took s.progress s.counts.written (take n input) r → number r.verdict ≡ 0
      → r.progress.matcher.now.at ≡ s.progress.matcher.now.at + n
  risen r n l t z =
      rw t.progress
      (heard-later (λ used. true) 0 s.progress (take n input)
      ∙ omega (arith, heard_all 0 s.progress (take n input) (sym t.verdict ∙ z), length-take-le n input l))

  module _ (r : State) (c : Came s input r) where
    abbrev on : r.more ≡ true → (0 < c.size) × (number r.verdict ≡ 0)
    on m =
        let both : (ltb 0 c.size && eqb (number r.verdict) 0) ≡ true = sym c.goes ∙ m in
        (ltb-true _ _ (and_left (ltb 0 c.size) _ both), eqb-true _ _ (and_right (ltb 0 c.size) _ both))

    -- the bytes of the chunk, the front of the buffer, join those that were read before
    pub came :
        (before : List ℕ)
        → card_bytes ≤ s.counts.read
        → Sent before (number s.verdict) s.progress s.counts.read s.counts.written
        → Stands r
    came before enough q =
        let t = c.took in (
          before ++ take c.size input,
          record {
            sent =
                sent-as r (sent-more _ _ _ _ (take c.size input) (rw ready.accepted at q) enough) t.verdict t.progress
                (omega (arith, c.read, length-take-le c.size input c.within)) t.written;
            few = most-written t.sound;
            ready = λ m. (
              record {
                sound = t.sound;
                accepted = (on m).1;
                near = omega (arith, ready.near, c.read, risen r c.size c.within t (on m).1);
              },
              omega (arith, c.read),
            );
          },
        )

    pub nearer :
        s.progress.matcher.now.at ≤ max_taken
        → distance r.more r.progress.matcher.now.at < distance true s.progress.matcher.now.at
    unfolding distance
    nearer l = go r.more refl
      where
        go : (b : Bool) → r.more ≡ b → cond b (max_taken + 1 - r.progress.matcher.now.at) 0 < max_taken + 1 - s.progress.matcher.now.at
        go true m = omega (arith, (on m).0, risen r c.size c.within c.took (on m).1)
        go false m = omega arith

  pub broken :
      (e : Failure)
      → (before : List ℕ)
      → card_bytes ≤ s.counts.read
      → Sent before (number s.verdict) s.progress s.counts.read s.counts.written
      → Turned s input (Err e)
      → Broken e
  broken (Unreadable counts) before enough q w = rw w (sent-partly _ _ _ _ _ q enough)
  broken Unwritable before enough q w = tt

  -- A chunk that was read into the buffer, and passed.
  pub passes :
      (n : ℕ) (next : State) (r : Result State Failure)
      → n ≤ length input
      → next ≡ record { progress = s.progress; verdict = s.verdict; counts = record { read = s.counts.read + n; written = s.counts.written }; more = ltb 0 n }
      → Passed next (take n input) r
      → Turned s input r
  passes n next (Ok r) l e w =
      let w' = rw e at w in record { size = n; within = l; read = w'.read; took = w'.took; goes = w'.goes }
  passes n next (Err (Unreadable counts)) l e w = let z : ◌≡◌ {A = ℕ} 0 1 = cc in absurd (omega arith)
  passes n next (Err Unwritable) l e w = tt

-- nothing was written yet
pub nothing : (input : List ℕ) → Partly (length input) 0
nothing input =
    record { input = input; said = []; all_read = refl; all-written = refl; lines = λ rest. (output (input ++ rest), refl) }

-- the end of a run
pub closed :
    (input : List ℕ) (s : State) (r : Result Counts Failure)
    → Sent input (number s.verdict) s.progress s.counts.read s.counts.written
    → Closed s r
    → Over r
closed input s (Ok r) q c = rw (c.0, c.1) (sent-over _ _ _ _ _ q)
closed input s (Err (Unreadable counts)) q c = let z : ◌≡◌ {A = ℕ} 0 1 = cc in absurd (omega arith)
closed input s (Err Unwritable) q c = tt
