-- The events of a track stand one behind another, each behind a byte of its time, and give one of three notes. What holds of no strokes and
-- of those of a track holds of those of a file.
-- Assumes nothing.
use Prim.Native.Nat.{ℕ, zero, suc, ◌+◌, ◌≤◌, ◌<◌}
use mathlib.Core.Path.{◌≡◌, refl, ap}
use mathlib.Core.Bool.{cond}
use mathlib.Core.List.{List, [], ◌∷◌}
use native.Mathlib.Omega.{arith}
use lib.ListN.{length}
use Rattle.std.proofs.Common.{Option, Some, None, Result, Ok, Err}
use Rattle.lists.proofs.Cases.{either}
use Rattle.midi_file.specs.declared.event.Quantity.{Quantity}
use Rattle.midi_file.specs.declared.event.Event.{Event}
use Rattle.midi_file.specs.declared.event.Placed.{Placed}
use Rattle.midi_file.specs.declared.note.Note.{Note}
use Rattle.midi_file.specs.declared.note.Note.TheVariants.{Outside, Silent, Struck}
use Rattle.refusal.specs.declared.Refusal.{Refusal}
use Rattle.midi_file.specs.declared.chunk.Track.{Track}
use Rattle.midi_file.specs.File.{part, track_of}
use Rattle.midi_file.specs.Track.{quantity_at, behind_time, step_at, running_behind, is_end, Events, joined, closed, followed, events_from, events_of}
use Rattle.midi_file.specs.Strokes.{Rule, note_of}
use Rattle.midi_file.specs.Calls.{track_strokes, file_strokes}
use Rattle.midi_file.proofs.Bounds.{QuantityEnds, Stands, StepStands, quantity-ends, event-stands}
use Rattle.midi_file.proofs.Scanning.{behind}

-- Events stand one behind another from a place on.
abbrev pub Chained : List ℕ → ℕ → List Placed → Type 0
Chained track at [] = Unit {0}
Chained track at (placed ∷ events) = Stands track (suc at) placed × Chained track placed.end events

module _ (track : List ℕ) where
  behind-stands : (running at : ℕ) (q : Option Quantity) → QuantityEnds track at q → StepStands track (suc at) (behind_time track running q)
  unfolding behind_time
  behind-stands running at (Some time) q = event-stands track (suc at) running time.behind q.0
  behind-stands running at None q = tt

  pub step-stands : (running at : ℕ) → StepStands track (suc at) (step_at track running at)
  step-stands running at = behind-stands running at (quantity_at track at) (quantity-ends track 4 0 at at (omega arith))

  followed-chained :
      (at : ℕ) (behind : Placed → Events) (step : Option Placed)
      → StepStands track (suc at) step
      → ((placed : Placed) → Chained track placed.end (behind placed).list)
      → Chained track at (followed track behind step).list
  unfolding followed
  followed-chained at behind (Some placed) q h =
      either (λ (events : Events). Chained track at events.list) (is_end placed.event) (λ _. (q, tt)) (λ _. (q, h placed))
  followed-chained at behind None q h = tt

  events-chained : (fuel running at : ℕ) → Chained track at (events_from fuel track running at).list
  unfolding events_from
  events-chained zero running at = tt
  events-chained (suc fuel) running at =
      followed-chained at (λ placed. events_from fuel track (running_behind placed.event) placed.end) (step_at track running at)
      (step-stands running at)
      (λ placed. events-chained fuel (running_behind placed.event) placed.end)

  pub track-chained : Chained track 0 (events_of track).list
  unfolding events_of
  track-chained = events-chained (suc (length track)) 0 0

  -- More fuel than there are bytes left makes no difference.
  followed_same :
      (at f g : ℕ) (step : Option Placed)
      → StepStands track (suc at) step
      → ((placed : Placed) → Stands track (suc at) placed → behind f track placed ≡ behind g track placed)
      → followed track (behind f track) step ≡ followed track (behind g track) step
  unfolding followed
  followed_same at f g None q same = refl
  followed_same at f g (Some placed) q same =
      ap (λ (events : Events). cond (is_end placed.event) (closed track placed) (joined placed events)) (same placed q)

  pub enough-fuel :
      (f g running at : ℕ)
      → at ≤ length track
      → length track < f + at
      → length track < g + at
      → events_from f track running at ≡ events_from g track running at
  unfolding events_from
  enough-fuel zero g running at l m n = absurd (omega arith)
  enough-fuel (suc f) zero running at l m n = absurd (omega arith)
  enough-fuel (suc f) (suc g) running at l m n =
      followed_same at f g (step_at track running at) (step-stands running at)
      (λ placed q.
      enough-fuel f g (running_behind placed.event) placed.end q.within (omega (arith, q.behind)) (omega (arith, q.behind)))

-- what an event is, told by what it gives
pub by-note :
    {G : Type 0} (rule : Rule) (event : Event)
    → (note_of rule event ≡ Outside → G)
    → (note_of rule event ≡ Silent → G)
    → ((key : ℕ) → note_of rule event ≡ Struck key → G)
    → G
by-note {G} rule event outside silent struck = go (note_of rule event) refl
  where
    go : (note : Note) → note_of rule event ≡ note → G
    go Outside e = outside e
    go Silent e = silent e
    go (Struck key) e = struck key e

pub by-track :
    (P : List ℕ → Type 0) (rule : Rule) (file : List ℕ)
    → P []
    → ((start n : ℕ) → P (track_strokes rule (part file start n)))
    → P (file_strokes rule file)
unfolding file_strokes
by-track P rule file none some = go (track_of file) refl
  where
    go : (chunk : Result Track Refusal) → track_of file ≡ chunk → P (file_strokes rule file)
    go (Err refusal) e = rw (file_strokes, e) none
    go (Ok track) e = rw (file_strokes, e) (some track.start track.size)
