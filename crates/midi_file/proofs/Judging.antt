-- A track that is judged and counted first, and written then.
-- Assumes nothing.
use Prim.Native.Nat.{ℕ, ◌≤◌}
use mathlib.Core.Path.{◌≡◌, refl, ◌∙◌}
use mathlib.Core.List.{List, [], ◌++◌}
use native.Mathlib.Omega.{arith}
use lib.ListN.{length, take, drop, length-append}
use lib.Seq.{take_all, take-append_seam, drop-nil}
use borrow.Author.Tests.{le-ltb, eq-eqb, ne_eqb}
use Rattle.std.proofs.Common.{Result, Ok, Err, IfOk}
use Rattle.refusal.specs.declared.Refusal.{Refusal}
use Rattle.refusal.specs.Number.{refusal_number, number}
use Rattle.refusal.proofs.Distinct.{refused-some}
use Rattle.midi_file.specs.declared.chunk.Track.{Track}
use Rattle.midi_file.specs.File.{part, track_of}
use Rattle.midi_file.specs.Strokes.{Rule}
use Rattle.midi_file.specs.Calls.{
  track_strokes,
  track_refusal,
  file_strokes,
  file_refusal,
  filled,
  judged_refusal,
  judged_count,
  judged_buffer,
  read_refusal,
  read_count,
  read_buffer,
}

-- what a call's result and a buffer are, once it is judged
abbrev pub Judged : ℕ → List ℕ → List ℕ → Result ℕ Refusal → List ℕ → Type 0
Judged refusal strokes entry r out =
    (number r ≡ judged_refusal refusal strokes entry)
    × IfOk r (λ n. n ≡ judged_count refusal strokes entry)
    × (out ≡ judged_buffer refusal strokes entry)

module _ (refusal : ℕ) (strokes entry : List ℕ) where
  pub judged-refused : (r : Refusal) → refusal_number r ≡ refusal → Judged refusal strokes entry (Err r) entry
  judged-refused r e =
      let some : refusal_number r ≡ 0 → ⊥ = refused-some {A = ℕ} {v = Err r} refl in
      let not : refusal ≡ 0 → ⊥ = λ z. some (e ∙ z) in
      let left : refusal_number r ≡ judged_refusal refusal strokes entry = rw (ne_eqb refusal 0 not) e in
      let still : judged_refusal refusal strokes entry ≡ 0 → ⊥ = λ z. some (left ∙ z) in
      (left, tt, rw (ne_eqb (judged_refusal refusal strokes entry) 0 still))

  pub judged-written :
      (r : Result ℕ Refusal) (out : List ℕ)
      → refusal ≡ 0
      → length strokes ≤ length entry
      → number r ≡ refusal
      → IfOk r (λ n. n ≡ length strokes)
      → out ≡ filled strokes entry
      → Judged refusal strokes entry r out
  unfolding filled
  judged-written r out z l e c w =
      rw (z, le-ltb (length entry) (length strokes) l)
      (e ∙ z, c, w ∙ rw (take_all (length entry) strokes l))

-- a part with no bytes was lent
pub lent_none : (strokes entry part : List ℕ) → part ≡ filled strokes [] → part ++ entry ≡ entry
unfolding filled
lent_none strokes entry part e = rw (e, drop-nil {A = ℕ} (length strokes))

-- What a file is judged as, told by its track chunk.
module _ (rule : Rule) (file entry : List ℕ) where
  abbrev pub Reads : Result ℕ Refusal → List ℕ → Type 0
  Reads r out =
      (number r ≡ read_refusal rule file entry)
      × IfOk r (λ n. n ≡ read_count rule file entry)
      × (out ≡ read_buffer rule file entry)

  pub read_refused : (refusal : Refusal) → track_of file ≡ Err refusal → Reads (Err refusal) entry
  unfolding file_refusal read_refusal read_count read_buffer
  read_refused refusal e = judged-refused (file_refusal rule file) (file_strokes rule file) entry refusal (rw (file_refusal, e))

  pub read_whole :
      (track : Track)
      → track_of file ≡ Ok track
      → (r : Result ℕ Refusal) (out : List ℕ)
      → (let inside = part file track.start track.size in Judged (track_refusal rule inside) (track_strokes rule inside) entry r out)
      → Reads r out
  unfolding file_refusal file_strokes read_refusal read_count read_buffer
  read_whole track e r out q = rw (file_refusal, file_strokes, e) q

  -- what an accepted reading leaves: the strokes stand at the buffer's front
  pub accepted-stands :
      (count : ℕ) (out : List ℕ)
      → read_refusal rule file entry ≡ 0
      → count ≡ read_count rule file entry
      → out ≡ read_buffer rule file entry
      → (take count out ≡ file_strokes rule file) × ((count ≡ length (file_strokes rule file)) × (count ≤ length out))
  unfolding read_refusal read_count read_buffer
  accepted-stands count out z c w =
      let strokes = file_strokes rule file in
      let good = eq-eqb (judged_refusal (file_refusal rule file) strokes entry) 0 z in
      let counted : count ≡ length strokes = c ∙ rw good in
      let stands : out ≡ strokes ++ drop (length strokes) entry = w ∙ rw good in (
        rw (counted, stands) (take-append_seam strokes (drop (length strokes) entry)),
        (counted, rw (counted, stands, length-append strokes (drop (length strokes) entry)) (omega arith)),
      )
