-- "Only files that got 17 for a Note On of velocity 0 can change: they now give what reading on gives" (document 02, A.6).
-- Assumes nothing.
use Prim.Native.Nat.{ℕ, suc, ◌+◌}
use mathlib.Core.Path.{◌≡◌, refl, sym, ap, ◌∙◌}
use mathlib.Core.Logic.{◌⊎◌, inl, inr}
use mathlib.Core.List.{List, ◌∷◌, ◌++◌}
use native.Mathlib.Omega.{arith}
use lib.ListN.{length}
use Rattle.std.proofs.Common.{Result, Ok, Err}
use Rattle.refusal.specs.declared.Refusal.{Refusal}
use Rattle.midi_file.specs.declared.Bells.{Bells}
use Rattle.midi_file.specs.declared.chunk.Track.{Track}
use Rattle.midi_file.specs.declared.event.Event.TheVariants.{Message}
use Rattle.midi_file.specs.declared.event.Placed.{Placed}
use Rattle.midi_file.specs.File.{part, track_of}
use Rattle.midi_file.specs.Track.{events_of}
use Rattle.midi_file.specs.Strokes.{Rule, note_on, strokes_of, any_outside, events_refusal}
use Rattle.midi_file.specs.Calls.{file_strokes, file_refusal, read_refusal, read_count, read_buffer}
use Rattle.midi_laws.specs.FormerRule.{former_note_on, given, judged, refused, Lifted, read_on, reading_on}
use Rattle.midi_laws.proofs.BothRules.{IsLifted, lifted-stops, lifted-silent, PassedOn, passed_on, refused-at}
use Rattle.midi_laws.proofs.FirstLifted.{ending, walk}

given-judged :
    (rule : Rule) (file entry : List ℕ) → given rule file entry ≡ judged (file_refusal rule file) (file_strokes rule file) entry
unfolding read_refusal read_count read_buffer
given-judged rule file entry = refl

module _ (bells : Bells) (file : List ℕ) where
  -- A file: the former rule was stopped at a lifted key, or both rules give the same.
  abbrev Unchanged : Type 0
  Unchanged = (entry : List ℕ) → given (note_on bells) file entry ≡ given (former_note_on bells) file entry

  unchanged :
      file_refusal (note_on bells) file ≡ file_refusal (former_note_on bells) file
      → file_strokes (note_on bells) file ≡ file_strokes (former_note_on bells) file
      → Unchanged
  unchanged r s entry = given-judged (note_on bells) file entry ∙ rw (r, s) (sym (given-judged (former_note_on bells) file entry))

  lifted-or-same : Lifted bells file ⊎ Unchanged
  unfolding file_refusal file_strokes events_of
  lifted-or-same = go (track_of file) refl
    where
      go : (chunk : Result Track Refusal) → track_of file ≡ chunk → Lifted bells file ⊎ Unchanged
      go (Err refusal) e = inr (unchanged (rw (file_refusal, e)) (rw (file_strokes, e)))
      go (Ok track) e =
          elim (walk bells file track.start track.size (suc (length (part file track.start track.size))) 0 0 (omega arith) (omega arith)) [
            | inl y ↦ inl (record { start = track.start; size = track.size; chunk = e; first = y })
            | inr same ↦ inr (unchanged (rw (file_refusal, e, same.1)) (rw (file_strokes, e, same.0)))
          ]

  -- A file with such a key got 17, and gives what reading on gives.
  module _ (x : Lifted bells file) where
    abbrev stop : Placed
    stop = ending (Message x.first.status x.first.key 0) (x.first.at + 2)

    is-lifted : IsLifted bells stop.event
    is-lifted =
        record { status = x.first.status; key = x.first.key; on = x.first.on; outside = x.first.outside; is = refl }

    refused-before : file_refusal (former_note_on bells) file ≡ 17
    unfolding file_refusal
    refused-before =
        rw (
          file_refusal,
          x.chunk,
          x.first.list,
          refused-at bells x.first.early (read_on x).list stop (lifted-stops bells stop.event is-lifted),
        )

    read-on : PassedOn bells x.first.early (stop ∷ (read_on x).list)
    read-on = passed_on bells x.first.early (stop ∷ (read_on x).list) x.first.passed

    refused-now : file_refusal (note_on bells) file ≡ events_refusal (note_on bells) (read_on x)
    unfolding file_refusal any_outside
    refused-now =
        rw (
          file_refusal,
          x.chunk,
          x.first.list,
          x.first.whole,
          read-on.1,
          any_outside,
          lifted-silent bells stop.event is-lifted,
        )

    struck-now :
        file_strokes (note_on bells) file ≡ strokes_of (former_note_on bells) x.first.early ++ strokes_of (note_on bells) (read_on x).list
    unfolding file_strokes strokes_of
    struck-now = rw (file_strokes, x.chunk, x.first.list, read-on.0, strokes_of, lifted-silent bells stop.event is-lifted)

    pub reads_on :
        (entry : List ℕ)
        → (given (former_note_on bells) file entry ≡ refused 17 entry) × (given (note_on bells) file entry ≡ reading_on x entry)
    reads_on entry = (
      given-judged (former_note_on bells) file entry ∙ ap (λ (n : ℕ). judged n (file_strokes (former_note_on bells) file) entry) refused-before,
      given-judged (note_on bells) file entry ∙ rw (refused-now, struck-now),
    )

-- "Only files that got 17 for a Note On of velocity 0 can change: they now give what reading on gives."
pub only-lifted :
    (bells : Bells) (file entry : List ℕ)
    → (given (note_on bells) file entry ≡ given (former_note_on bells) file entry → ⊥)
    → (x : Lifted bells file)
    × (given (former_note_on bells) file entry ≡ refused 17 entry)
    × (given (note_on bells) file entry ≡ reading_on x entry)
only-lifted bells file entry differ =
    elim (lifted-or-same bells file) [
      | inl x ↦ (x, (reads_on bells file x entry).0, (reads_on bells file x entry).1)
      | inr same ↦ absurd (differ (same entry))
    ]

-- All others give what they gave.
pub others_same :
    (bells : Bells) (file : List ℕ)
    → (Lifted bells file → ⊥)
    → (entry : List ℕ)
    → given (note_on bells) file entry ≡ given (former_note_on bells) file entry
others_same bells file none entry = elim (lifted-or-same bells file) [ inl x ↦ absurd (none x) | inr same ↦ same entry ]
