-- Wherever a list of calls stands, its watch is that of its history's bytes and the answers are the ladder's; and the record that a parking
-- wrote is that of such a watch.
-- Assumes nothing.
use Prim.Native.Nat.{ℕ, ◌≤◌, ◌<◌}
use mathlib.Core.Path.{◌≡◌}
use mathlib.Core.Bool.{true}
use mathlib.Core.List.{List, [], ◌∷◌, ◌++◌}
use native.Mathlib.Decide.{dec_lt}
use native.Mathlib.Omega.{arith}
use lib.ListN.{length, take, drop}
use borrow.Author.Tests.{ne_eqb}
use Rattle.fingerprint.specs.declared.Key.{Key}
use Rattle.signature.specs.declared.Signature.{Signature}
use Rattle.made_from.specs.MadeFrom.{MadeSignature}
use Rattle.matcher.specs.declared.Matcher.{Matcher}
use Rattle.stage.specs.Stage.{max_taken}
use Rattle.stage.specs.Stages.{Whole}
use Rattle.stage.proofs.Stages.{whole_of}
use Rattle.matcher.specs.Matcher.{matcher_fits, fresh}
use Rattle.matcher.specs.Stroke.{stroke_refusal, stroke_answer, after_stroke}
use Rattle.refinement.specs.Refinement.{passage_tests, watch_of, Refines}
use Rattle.refinement.proofs.WatchFits as watch-fits
use Rattle.refinement.proofs.Passages.{passage-refines}
use Rattle.checkpoint_format.specs.declared.Format.{Format}
use Rattle.checkpoint_format.specs.Layout.{checkpoint_record}
use Rattle.checkpoint_format.specs.Calls.{can_say}
use Rattle.checkpoint_save.specs.Calls.{watch_judged, save_refusal, save_used, save_buffer, behind_refusal, behind_buffer}
use Rattle.checkpoint_restore.specs.Calls.{restore_refusal, restored_matcher}
use Rattle.checkpoint_restore.proofs.CheckpointRoundTrip.{restore-accepted, restore-back}
use Rattle.whole_run.specs.History.{Taken, History, bytes_of}
use Rattle.whole_run.specs.Run.{
  BeginsWith,
  CardOf,
  Call,
  Run,
  starts,
  takes,
  refuses-stroke,
  parks,
  parks-behind,
  resumes,
  refuses-resumption,
  Wrote,
  parked,
  parked-behind,
}
use Rattle.whole_run.proofs.Cards.{card-of}
use Rattle.whole_run.proofs.Buffers.{begins-rest, put_front, parked-says, behind-front}
use Rattle.whole_run.proofs.Histories.{Faithful, faithful-none, faithful-more, bytes-more}

-- The watch is that of the history's bytes, and the history's answers are the ladder's.
pub record Tracks (key : Key) (p : List ℕ) (card : Signature) (w : Matcher) (h : History) : Type 0 where
  pub watch : w ≡ watch_of card (bytes_of h)
  pub faithful : Faithful key p h

-- The record, wide or narrow, is that of the watch of the history's bytes, and can say how many they are.
pub record Records (key : Key) (p : List ℕ) (card : Signature) (bytes : List ℕ) (h : History) : Type 0 where
  pub format : Format
  pub written : bytes ≡ checkpoint_record format (watch_of card (bytes_of h))
  pub says : can_say format (watch_of card (bytes_of h)).now.at ≡ true
  pub faithful : Faithful key p h

module _ {key : Key} {p : List ℕ} {card : Signature} (c : CardOf key p card) where
  facts : MadeSignature key p card
  facts = card-of c

  pub never-misfit : (h : List ℕ) → length h ≤ max_taken → matcher_fits (watch_of card h) ≡ true
  never-misfit = watch-fits.fits card facts.fits

  shaped : (h : List ℕ) → Whole (watch_of card h).stages
  unfolding watch_of
  shaped h = whole_of _

  -- A resumption from the record of such a watch is accepted and hands the watch back.
  pub resumed :
      (f : Format) (h : List ℕ)
      → length h ≤ max_taken
      → can_say f (watch_of card h).now.at ≡ true
      → (buffer : List ℕ)
      → BeginsWith (checkpoint_record f (watch_of card h)) buffer
      → (restore_refusal card buffer ≡ 0) × (restored_matcher card buffer ≡ watch_of card h)
  unfolding watch_of
  resumed f h l says buffer b =
      let w : Matcher = watch_of card h in
      rw (begins-rest (checkpoint_record f w) buffer b)
      (restore-accepted f w (never-misfit h l) (shaped h) says _, restore-back f w (never-misfit h l) (shaped h) says _)

  -- A byte is taken until the count is spent.
  pub takes-byte : (h : List ℕ) → length h < max_taken → (byte : ℕ) → Refines card (passage_tests key p) h byte
  takes-byte h l byte = passage-refines key p card facts.state facts.fits h byte l

  pub spent : (h : List ℕ) → length h ≡ max_taken → stroke_refusal (watch_of card h) ≡ 6
  unfolding watch_of
  spent h e = rw (never-misfit h (omega arith), e)

  not-spent : (h : List ℕ) → length h ≤ max_taken → stroke_refusal (watch_of card h) ≡ 0 → length h < max_taken
  not-spent h l e =
      elim (dec_lt (length h) max_taken) [
        | yes below ↦ below
        | no over ↦ absurd (omega (arith, spent h (omega arith)))
      ]

  fresh-tracks : Tracks key p card (fresh card) []
  fresh-tracks =
      record {
        watch = watch-fits.fresh_start card facts.fits;
        faithful = faithful-none key p;
      }

  module _ {w : Matcher} {h : History} (q : Tracks key p card w h) where
    stroke-tracks :
        (byte : ℕ)
        → stroke_refusal w ≡ 0
        → Tracks key p card (after_stroke w byte) (h ++ record { byte = byte; answer = stroke_answer w byte } ∷ [])
    stroke-tracks byte e =
        let l = not-spent (bytes_of h) q.faithful.within (rw q.watch at e) in
        let next = takes-byte (bytes_of h) l byte in
        let x : Taken = record { byte = byte; answer = stroke_answer w byte } in
        record {
          watch = rw (bytes-more h x, q.watch) next.watch;
          faithful = faithful-more key p h x (rw q.watch next.answer) q.faithful l;
        }

    refused-tracks : (byte : ℕ) → (stroke_refusal w ≡ 0 → ⊥) → Tracks key p card (after_stroke w byte) h
    unfolding after_stroke
    refused-tracks byte n = rw (ne_eqb (stroke_refusal w) 0 n, after_stroke) q

    written-records :
        (f : Format) → can_say f w.now.at ≡ true → {bytes : List ℕ} → bytes ≡ checkpoint_record f w → Records key p card bytes h
    written-records f s e =
        record { format = f; written = rw (← q.watch) e; says = rw (← q.watch) s; faithful = q.faithful }

    parked-records :
        (f : Format) (lent : List ℕ)
        → save_refusal f w lent ≡ 0
        → Records key p card (take (save_used f w lent) (save_buffer f w lent)) h
    parked-records f lent e =
        written-records f (parked-says f w lent e) (put_front (watch_judged f w) (checkpoint_record f w) lent e)

    behind-records :
        (f : Format) (lent : List ℕ) (used : ℕ)
        → behind_refusal f w lent used ≡ 0
        → Records key p card (take (save_used f w (drop used lent)) (drop used (behind_buffer f w lent used))) h
    behind-records f lent used e = written-records f (parked-says f w (drop used lent) e) (behind-front f w lent used e)

  resumed-tracks :
      {bytes : List ℕ} {h : History} (buffer : List ℕ)
      → Records key p card bytes h
      → BeginsWith bytes buffer
      → Tracks key p card (restored_matcher card buffer) h
  resumed-tracks {bytes} {h} buffer r b =
      record {
        watch = (resumed r.format (bytes_of h) r.faithful.within r.says buffer (rw r.written at b)).1;
        faithful = r.faithful;
      }

  -- One induction over the list of calls and those of the parkings that it resumes.
  pub run-tracks : {calls : List Call} {w : Matcher} {h : History} → Run card calls w h → Tracks key p card w h
  run-tracks run =
      elim run as (λ calls w h d. Tracks key p card w h) (λ bytes h d. Records key p card bytes h) [
        | starts e ↦ fresh-tracks
        | takes door byte small (d → q) e ↦ stroke-tracks q byte e
        | refuses-stroke door byte (d → q) n ↦ refused-tracks q byte n
        | parks f lent (d → q) ↦ q
        | parks-behind f lent used (d → q) ↦ q
        | resumes buffer (d → q) (wrote → r) b e ↦ resumed-tracks buffer r b
        | refuses-resumption other buffer (d → q) n ↦ q
        | parked f lent (d → q) e ↦ parked-records q f lent e
        | parked-behind f lent used (d → q) e ↦ behind-records q f lent used e
      ]

  pub wrote-tracks : {bytes : List ℕ} {h : History} → Wrote card bytes h → Records key p card bytes h
  wrote-tracks (parked f lent d e) = parked-records (run-tracks d) f lent e
  wrote-tracks (parked-behind f lent used d e) = behind-records (run-tracks d) f lent used e
