-- Demand 2, "parking then resuming under the same card gives the same watch", for the watch of every list of calls; such a resumption is
-- never refused, and such a watch refuses no byte until its count is spent.
-- Assumes nothing.
use Prim.Native.Nat.{ℕ, ◌≤◌, ◌<◌}
use mathlib.Core.Path.{◌≡◌, sym, ◌∙◌}
use mathlib.Core.Bool.{true, false}
use mathlib.Core.List.{List}
use lib.ListN.{length, take, drop}
use borrow.Author.Tests.{le-ltb}
use Rattle.fingerprint.specs.declared.Key.{Key}
use Rattle.signature.specs.declared.Signature.{Signature}
use Rattle.matcher.specs.declared.Matcher.{Matcher}
use Rattle.stage.specs.Stage.{max_taken}
use Rattle.matcher.specs.Matcher.{matcher_fits, fresh_refusal}
use Rattle.matcher.specs.Stroke.{stroke_refusal}
use Rattle.checkpoint_format.specs.declared.Format.{Format}
use Rattle.checkpoint_format.specs.declared.Format.TheVariants.{Narrow}
use Rattle.checkpoint_format.specs.Layout.{checkpoint_record}
use Rattle.checkpoint_format.specs.Calls.{can_say}
use Rattle.checkpoint_save.specs.Calls.{watch_judged, save_refusal, save_used, save_buffer, behind_refusal, behind_buffer}
use Rattle.checkpoint_restore.specs.Calls.{restore_refusal, restored_matcher}
use Rattle.whole_run.specs.History.{History, bytes_of}
use Rattle.whole_run.specs.Run.{BeginsWith, CardOf, Call, Run, Wrote}
use Rattle.whole_run.proofs.Buffers.{put_front, parked-says, behind-front}
use Rattle.whole_run.proofs.Cards.{card-of}
use Rattle.whole_run.proofs.Tracks.{Tracks, never-misfit, run-tracks, wrote-tracks, resumed, takes-byte, spent}

module _ {key : Key} {p : List ℕ} {card : Signature} (c : CardOf key p card) where
  -- A list of calls can start with every such card.
  pub fresh-accepted : fresh_refusal card ≡ 0
  fresh-accepted = rw (card-of c).fits

  -- A record that a parking wrote earlier is not refused.
  pub never-refused :
      {bytes : List ℕ} {h : History} → Wrote card bytes h → (buffer : List ℕ) → BeginsWith bytes buffer → restore_refusal card buffer ≡ 0
  never-refused {bytes} {h} wrote buffer b =
      let r = wrote-tracks c wrote in
      (resumed c r.format (bytes_of h) r.faithful.within r.says buffer (rw r.written at b)).0

  module _ {calls : List Call} {w : Matcher} {h : History} (run : Run card calls w h) where
    tracks : Tracks key p card w h
    tracks = run-tracks c run

    fits : matcher_fits w ≡ true
    fits = rw tracks.watch (never-misfit c (bytes_of h) tracks.faithful.within)

    -- A parking is refused for want of space alone, and a narrow one once t is above what it can say, with 18.
    pub parking-accepted :
        (f : Format) (lent : List ℕ)
        → can_say f w.now.at ≡ true
        → length (checkpoint_record f w) ≤ length lent
        → save_refusal f w lent ≡ 0
    parking-accepted f lent s l = rw (fits, s, le-ltb (length lent) (length (checkpoint_record f w)) l)

    pub narrow-refused : (lent : List ℕ) → can_say Narrow w.now.at ≡ false → save_refusal Narrow w lent ≡ 18
    narrow-refused lent s = rw (fits, s)

    same-record :
        (f : Format) (buffer : List ℕ)
        → can_say f w.now.at ≡ true
        → BeginsWith (checkpoint_record f w) buffer
        → (restore_refusal card buffer ≡ 0) × (restored_matcher card buffer ≡ w)
    same-record f buffer s b =
        let back = resumed c f (bytes_of h) tracks.faithful.within (rw tracks.watch at s) buffer (rw tracks.watch at b) in
        (back.0, back.1 ∙ sym tracks.watch)

    pub same-watch :
        (f : Format) (lent buffer : List ℕ)
        → save_refusal f w lent ≡ 0
        → BeginsWith (take (save_used f w lent) (save_buffer f w lent)) buffer
        → (restore_refusal card buffer ≡ 0) × (restored_matcher card buffer ≡ w)
    same-watch f lent buffer e b =
        same-record f buffer (parked-says f w lent e) (rw (put_front (watch_judged f w) (checkpoint_record f w) lent e) at b)

    pub same-watch-behind :
        (f : Format) (lent : List ℕ) (used : ℕ) (buffer : List ℕ)
        → behind_refusal f w lent used ≡ 0
        → BeginsWith (take (save_used f w (drop used lent)) (drop used (behind_buffer f w lent used))) buffer
        → (restore_refusal card buffer ≡ 0) × (restored_matcher card buffer ≡ w)
    same-watch-behind f lent used buffer e b =
        same-record f buffer (parked-says f w (drop used lent) e) (rw (behind-front f w lent used e) at b)

    -- The byte that takes t to 1099511627775 is taken; the one after is refused.
    pub every-stroke-taken : length (bytes_of h) < max_taken → stroke_refusal w ≡ 0
    every-stroke-taken l = rw tracks.watch (takes-byte c (bytes_of h) l 0).accepted

    pub then_spent : length (bytes_of h) ≡ max_taken → stroke_refusal w ≡ 6
    then_spent e = rw tracks.watch (spent c (bytes_of h) e)
