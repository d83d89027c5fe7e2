-- Events under the rule at a Note On and under the former one: they differ at a lifted key outside the bells alone.
-- Assumes nothing.
use Prim.Native.Nat.{ℕ}
use mathlib.Core.Path.{◌≡◌, refl, ap, ◌∙◌}
use mathlib.Core.Logic.{◌⊎◌, inl, inr}
use mathlib.Core.Bool.{true, false}
use mathlib.Core.List.{List, [], ◌∷◌, ◌++◌}
use native.Mathlib.Omega.{arith}
use lib.Dec.{eqb}
use borrow.Author.Tests.{eqb-true}
use Rattle.lists.proofs.Cases.{by-test}
use Rattle.midi_file.specs.declared.Bells.{Bells}
use Rattle.midi_file.specs.declared.event.Event.{Event}
use Rattle.midi_file.specs.declared.event.Event.TheVariants.{Message, Exclusive, Meta}
use Rattle.midi_file.specs.declared.event.Placed.{Placed}
use Rattle.midi_file.specs.declared.note.Note.TheVariants.{Outside, Silent}
use Rattle.midi_file.specs.Strokes.{Rule, is_outside, note_on, is_note_on, note_of, strokes_of, any_outside}
use Rattle.midi_laws.specs.FormerRule.{former_note_on}
use Rattle.midi_laws.proofs.Stands.{by-note}

module _ (bells : Bells) where
  abbrev now : Rule
  now = note_on bells

  abbrev former : Rule
  former = former_note_on bells

  -- A Note On of velocity 0 with a key outside the bells ..
  pub record IsLifted (event : Event) : Type 0 where
    pub status : ℕ
    pub key : ℕ
    pub on : is_note_on status ≡ true
    pub outside : is_outside bells key ≡ true
    pub is : event ≡ Message status key 0

  pub lifted-stops : (event : Event) → IsLifted event → note_of former event ≡ Outside
  unfolding former_note_on
  lifted-stops event x = rw (x.is, x.on, former_note_on, x.outside)

  pub lifted-silent : (event : Event) → IsLifted event → note_of now event ≡ Silent
  unfolding note_on
  lifted-silent event x = rw (x.is, x.on)

  -- .. is all that the two rules differ at.
  pub alike : (event : Event) → IsLifted event ⊎ (note_of now event ≡ note_of former event)
  unfolding note_on former_note_on
  alike (Message status key velocity) =
      by-test (is_note_on status)
      (λ n.
      by-test (eqb velocity 0)
      (λ v.
      by-test (is_outside bells key)
      (λ o. inl (record { status = status; key = key; on = n; outside = o; is = ap (Message status key) (eqb-true velocity 0 v) }))
      (λ o. inr (rw (n, note_on, former_note_on, v, o))))
      (λ v. inr (rw (n, note_on, former_note_on, v))))
      (λ n. inr (rw n))
  alike Exclusive = inr refl
  alike (Meta type n) = inr refl

  -- Events of which both rules say the same give the same.
  abbrev pub Same : List Placed → Type 0
  Same events = (strokes_of now events ≡ strokes_of former events) × (any_outside now events ≡ any_outside former events)

  pub same_stop :
      (placed : Placed) (events : List Placed)
      → note_of now placed.event ≡ Outside
      → note_of former placed.event ≡ Outside
      → Same (placed ∷ events)
  unfolding strokes_of any_outside
  same_stop placed events a f = (rw (strokes_of, a, f), rw (any_outside, a, f))

  pub same_more :
      (placed : Placed) (events : List Placed)
      → note_of now placed.event ≡ note_of former placed.event
      → Same events
      → Same (placed ∷ events)
  unfolding strokes_of any_outside
  same_more placed events a same =
      by-note former placed.event
      (λ f. same_stop placed events (a ∙ f) f)
      (λ f. (rw (strokes_of, a ∙ f, f) same.0, rw (any_outside, a ∙ f, f) same.1))
      (λ key f. (rw (strokes_of, a ∙ f, f, same.0), rw (any_outside, a ∙ f, f) same.1))

  -- Events that the former rule passes give their strokes under both, whatever stands behind them.
  abbrev pub PassedOn : List Placed → List Placed → Type 0
  PassedOn early rest =
      (strokes_of now (early ++ rest) ≡ strokes_of former early ++ strokes_of now rest) × (any_outside now (early ++ rest) ≡ any_outside now rest)

  pub passed_on : (early rest : List Placed) → any_outside former early ≡ false → PassedOn early rest
  unfolding strokes_of any_outside
  passed_on [] rest p = (refl, refl)
  passed_on (placed ∷ early) rest p =
      let passes : note_of former placed.event ≡ Outside → ⊥ =
      λ f. let e : true ≡ false = rw (any_outside, f) at p in let z : ◌≡◌ {A = ℕ} 0 1 = cc in absurd (omega arith)
      in
      elim (alike placed.event) [
        | inl x ↦ absurd (passes (lifted-stops placed.event x))
        | inr a ↦
            by-note former placed.event (λ f. absurd (passes f))
            (λ f.
            let q = passed_on early rest (rw (any_outside, f) at p) in
            (rw (strokes_of, a ∙ f, f) q.0, rw (any_outside, a ∙ f) q.1))
            (λ key f.
            let q = passed_on early rest (rw (any_outside, f) at p) in
            (rw (strokes_of, a ∙ f, f, q.0), rw (any_outside, a ∙ f) q.1))
      ]

  -- The former rule refuses events of which it refuses one.
  pub refused-at :
      (early rest : List Placed) (placed : Placed)
      → note_of former placed.event ≡ Outside
      → any_outside former (early ++ placed ∷ rest) ≡ true
  unfolding any_outside
  refused-at [] rest placed o = rw (any_outside, o)
  refused-at (first ∷ early) rest placed o =
      let more = refused-at early rest placed o in
      by-note former first.event (λ f. rw (any_outside, f)) (λ f. rw (any_outside, f) more) (λ key f. rw (any_outside, f) more)
