-- The events of a track: a lifted key outside the bells is the first that the former rule refuses, or both rules give the same.
-- Assumes nothing.
use Prim.Native.Nat.{ℕ, zero, suc, ◌+◌, ◌≤◌, ◌<◌}
use mathlib.Core.Path.{◌≡◌, refl, sym, ap, subst, ◌∙◌}
use mathlib.Core.Logic.{◌⊎◌, inl, inr}
use mathlib.Core.Bool.{Bool, true, false}
use mathlib.Core.List.{List, [], ◌∷◌}
use native.Mathlib.Omega.{arith}
use lib.ListN.{length, drop, length-take}
use lib.Seq.{get_or-take, get_or-drop}
use Rattle.std.proofs.Common.{Option, Some, None}
use Rattle.lists.proofs.Cases.{either}
use Rattle.midi_file.specs.declared.Bells.{Bells}
use Rattle.midi_file.specs.declared.event.Event.{Event}
use Rattle.midi_file.specs.declared.event.Event.TheVariants.{Message}
use Rattle.midi_file.specs.declared.event.Placed.{Placed}
use Rattle.midi_file.specs.File.{byte, part}
use Rattle.midi_file.specs.Track.{step_at, running_behind, is_end, Events, joined, followed, events_from}
use Rattle.midi_file.specs.Strokes.{note_on, note_of, strokes_of, any_outside}
use Rattle.midi_file.proofs.Bounds.{DataStand, Stands, StepStands}
use Rattle.midi_file.proofs.Scanning.{behind}
use Rattle.midi_laws.specs.FormerRule.{former_note_on, events_behind, FirstLifted}
use Rattle.midi_laws.proofs.Stands.{step-stands, enough-fuel, by-note}
use Rattle.midi_laws.proofs.Count.{note-on-data}
use Rattle.midi_laws.proofs.BothRules.{IsLifted, alike, Same, same_stop, same_more}

-- an event, with the place where it ends
abbrev pub ending : Event → ℕ → Placed
ending event end = record { event = event; end = end }

module _ (bells : Bells) (file : List ℕ) (start size : ℕ) where
  abbrev pub track : List ℕ
  track = part file start size

  abbrev pub Found : Events → Type 0
  Found events = FirstLifted bells file start size events

  byte-there : (at : ℕ) → at < length track → byte track at ≡ byte file (start + at)
  byte-there at l = get_or-take size (drop start file) at 0 (omega (arith, length-take size (drop start file))) ∙ get_or-drop start file at 0

  found_here :
      (from fuel : ℕ) (placed : Placed)
      → IsLifted bells placed.event
      → Stands track from placed
      → length track < fuel + placed.end
      → Found (joined placed (behind fuel track placed))
  unfolding any_outside
  found_here from fuel placed x q l =
      let stand : DataStand track (Message x.status x.key 0) placed.end =
      subst (λ (event : Event). DataStand track event placed.end) x.is q.two
      in
      let there = stand (note-on-data x.status x.on) in
      let at = there.0 in
      let it : Event = Message x.status x.key 0 in
      let is : placed ≡ ending it (at + 2) =
      ap (λ (event : Event). ending event placed.end) x.is ∙ ap (ending it) there.1
      in
      let rest : behind fuel track placed ≡ events_behind track x.status (at + 2) =
      ap (behind fuel track) is
      ∙ enough-fuel track fuel (suc (length track)) x.status (at + 2) (omega (arith, q.within, there.1))
      (omega (arith, there.1))
      (omega arith)
      in
      record {
        early = [];
        passed = refl;
        status = x.status;
        key = x.key;
        on = x.on;
        outside = x.outside;
        at = at;
        key-there = sym (byte-there at (omega (arith, q.within, there.1))) ∙ there.2;
        velocity-there = sym (byte-there (at + 1) (omega (arith, q.within, there.1))) ∙ there.3;
        list =
            ap (λ (first : Placed). first ∷ (behind fuel track placed).list) is
            ∙ ap (λ (events : Events). ending it (at + 2) ∷ events.list) rest;
        whole = ap (λ (events : Events). events.whole) rest;
      }

  found-later :
      (placed : Placed) (events : Events)
      → ((list : List Placed) → any_outside (former_note_on bells) (placed ∷ list) ≡ any_outside (former_note_on bells) list)
      → Found events
      → Found (joined placed events)
  found-later placed events passes y =
      record {
        early = placed ∷ y.early;
        passed = passes y.early ∙ y.passed;
        status = y.status;
        key = y.key;
        on = y.on;
        outside = y.outside;
        at = y.at;
        key-there = y.key-there;
        velocity-there = y.velocity-there;
        list = ap (λ (list : List Placed). placed ∷ list) y.list;
        whole = y.whole;
      }

  abbrev pub Walked : Events → Type 0
  Walked events = Found events ⊎ Same bells events.list

  walk-later :
      (placed : Placed) (events : Events)
      → note_of (note_on bells) placed.event ≡ note_of (former_note_on bells) placed.event
      → ((list : List Placed) → any_outside (former_note_on bells) (placed ∷ list) ≡ any_outside (former_note_on bells) list)
      → Walked events
      → Walked (joined placed events)
  walk-later placed events a passes (inl y) = inl (found-later placed events passes y)
  walk-later placed events a passes (inr same) = inr (same_more bells placed events.list a same)

  walk_more :
      (from fuel : ℕ) (placed : Placed)
      → Stands track from placed
      → length track < fuel + placed.end
      → Walked (behind fuel track placed)
      → Walked (joined placed (behind fuel track placed))
  unfolding any_outside
  walk_more from fuel placed q l rest =
      elim (alike bells placed.event) [
        | inl x ↦ inl (found_here from fuel placed x q l)
        | inr a ↦
            by-note (former_note_on bells) placed.event
            (λ f. inr (same_stop bells placed (behind fuel track placed).list (a ∙ f) f))
            (λ f. walk-later placed (behind fuel track placed) a (λ list. rw (any_outside, f)) rest)
            (λ key f. walk-later placed (behind fuel track placed) a (λ list. rw (any_outside, f)) rest)
      ]

  -- an end of track, with nothing behind it
  walk_end : (placed : Placed) → is_end placed.event ≡ true → Same bells (placed ∷ [])
  unfolding strokes_of any_outside
  walk_end placed e =
      elim (alike bells placed.event) [
        | inl x ↦ let z : ◌≡◌ {A = Bool} false true = sym (ap is_end x.is) ∙ e in let y : ◌≡◌ {A = ℕ} 0 1 = cc in absurd (omega arith)
        | inr a ↦ same_more bells placed [] a (refl, refl)
      ]

  walk_step :
      (at fuel : ℕ) (step : Option Placed)
      → length track ≤ fuel + at
      → StepStands track (suc at) step
      → ((placed : Placed) → Stands track (suc at) placed → Walked (behind fuel track placed))
      → Walked (followed track (behind fuel track) step)
  unfolding followed strokes_of any_outside
  walk_step at fuel None l q rest = inr (refl, refl)
  walk_step at fuel (Some placed) l q rest =
      either Walked (is_end placed.event) (λ e. inr (walk_end placed e))
      (λ _. walk_more (suc at) fuel placed q (omega (arith, q.behind)) (rest placed q))

  -- the events from a place on, with enough fuel
  pub walk : (fuel running at : ℕ) → at ≤ length track → length track < fuel + at → Walked (events_from fuel track running at)
  unfolding events_from
  walk zero running at l m = absurd (omega arith)
  walk (suc fuel) running at l m =
      walk_step at fuel (step_at track running at) (omega arith) (step-stands track running at)
      (λ placed q. walk fuel (running_behind placed.event) placed.end q.within (omega (arith, q.behind)))
