-- A note: five numbers stored together. An answer with nothing to report has none.
-- Assumes nothing.
use Prim.Native.Nat.{ℕ, ◌+◌, ◌≤◌}
use mathlib.Core.Path.{◌≡◌, refl, sym, ◌∙◌}
use mathlib.Core.Bool.{true, true≢false}
use mathlib.Core.List.{List, [], flat_map, append_assoc}
use native.Mathlib.Omega.{arith}
use lib.ListN.{length, take, drop}
use Rattle.std.proofs.lemmas.Slice.{put_mid-paste}
use Rattle.std.proofs.lemmas.List.Edits.{paste_all, sets-eq}
use borrow.Rule.Slice.PartMut.{put_mid}
use borrow.Author.Tests.{eqb-true}
use Rattle.lists.proofs.Laws.{and_left, and_right}
use Rattle.lists.specs.Stored.{Stored}
use Rattle.std.specs.Prelude.{Option, Some, None, is_none}
use Rattle.walk.specs.declared.Answer.{Answer}
use Rattle.walk.specs.Walk.{silent}
use Rattle.notes.specs.Notes.{note_size, ring_notes, notes_of}

-- five numbers put into a part of the list
pub note_stored :
    (l note part : List ℕ) (at k : ℕ)
    → length note ≡ note_size
    → k ≡ note_size
    → at + note_size ≤ length l
    → part ≡ note
    → Stored l at note note_size (at + note_size) (put_mid at k l part)
note_stored l note part at k five size room e =
    let full : k ≡ length note = size ∙ sym five in
    record {
      behind = omega arith;
      within = omega arith;
      buffer =
          put_mid-paste at k l part note k e refl full
          ∙ paste_all l at note k full
          ∙ rw full (sym (append_assoc (take at l) note (drop (at + length note) l)) ∙ sym (sets-eq note l at (omega arith)));
    }

-- an answer with no ring and no set has no notes
silent-ring : (t : ℕ) (ring : Option ℕ) → is_none ring ≡ true → ring_notes t ring ≡ []
silent-ring t None e = refl
silent-ring t (Some start) e = absurd (true≢false (sym e))

pub silent-notes : (t : ℕ) (a : Answer) → silent a ≡ true → notes_of t a ≡ []
unfolding notes_of flat_map
silent-notes t a e =
    rw (silent-ring t a.ring (and_left (is_none a.ring) _ e), eqb-true a.asides 0 (and_right (is_none a.ring) _ e))
