-- What a writer that was not refused leaves at the front of the part lent to it is the record, and a buffer that begins with bytes is these
-- and a rest.
-- Assumes nothing.
use Prim.Native.Nat.{ℕ}
use mathlib.Core.Path.{◌≡◌, sym, ◌∙◌, ap}
use mathlib.Core.Bool.{true}
use mathlib.Core.List.{List, ◌++◌}
use native.Mathlib.Omega.{arith}
use lib.ListN.{length, take, drop, take-append-drop, length-drop}
use lib.Seq.{length-take-le, take-append_seam, drop_at}
use Rattle.matcher.specs.declared.Matcher.{Matcher}
use Rattle.checkpoint_format.specs.declared.Format.{Format}
use Rattle.record.specs.Calls.{put_refusal, put_used, put_buffer}
use Rattle.checkpoint_format.specs.Layout.{checkpoint_record}
use Rattle.checkpoint_format.specs.Calls.{can_say}
use Rattle.checkpoint_save.specs.Calls.{watch_judged, save_refusal, save_used, save_buffer, behind_refusal, behind_buffer}
use Rattle.record.proofs.Accepted.{put-passed}
use Rattle.checkpoint_format.proofs.Sizes.{checkpoint-size}
use Rattle.checkpoint_save.proofs.Accepted.{judged-passed}
use Rattle.whole_run.specs.Run.{BeginsWith}

-- the buffer is the bytes that it begins with and a rest
pub begins-rest : (bytes buffer : List ℕ) → BeginsWith bytes buffer → buffer ≡ bytes ++ drop (length bytes) buffer
begins-rest bytes buffer b = sym (take-append-drop (length bytes) buffer) ∙ ap (λ u. u ++ drop (length bytes) buffer) b

-- "A writer fills the front of the part lent to it": with the record.
pub put_front :
    (judged : ℕ) (bytes entry : List ℕ)
    → put_refusal judged bytes entry ≡ 0
    → take (put_used judged bytes entry) (put_buffer judged bytes entry) ≡ bytes
put_front judged bytes entry e = rw e (take-append_seam bytes (drop (length bytes) entry))

-- The record can say the t of a watch that was parked in it.
pub parked-says : (f : Format) (w : Matcher) (lent : List ℕ) → save_refusal f w lent ≡ 0 → can_say f w.now.at ≡ true
parked-says f w lent e = (judged-passed f w (put-passed (watch_judged f w) (checkpoint_record f w) lent e).0).1

-- A parking behind others fills the front of the rest: with the record.
pub behind-front :
    (f : Format) (w : Matcher) (lent : List ℕ) (used : ℕ)
    → behind_refusal f w lent used ≡ 0
    → take (save_used f w (drop used lent)) (drop used (behind_buffer f w lent used)) ≡ checkpoint_record f w
behind-front f w lent used e =
    let space = (put-passed (watch_judged f w) (checkpoint_record f w) (drop used lent) e).1 in
    let size : length (take used lent) ≡ used =
    length-take-le used lent (omega (arith, length-drop used lent, checkpoint-size f w))
    in
    rw (drop_at (take used lent) (save_buffer f w (drop used lent)) used size)
    (put_front (watch_judged f w) (checkpoint_record f w) (drop used lent) e)
