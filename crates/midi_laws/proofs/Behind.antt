-- The bytes behind a file's track chunk change nothing: another file with the same bytes up to there has the same track, so the same
-- strokes and the same refusal.
-- Assumes nothing.
use Prim.Native.Nat.{ℕ, zero, suc, ◌+◌, ◌≤◌, ◌<◌}
use mathlib.Core.Path.{◌≡◌, refl, ◌∙◌, ap}
use mathlib.Core.List.{List, [], ◌∷◌}
use native.Mathlib.Nat.{zero-add, suc-add}
use native.Mathlib.Omega.{arith}
use lib.ListN.{length, take, drop, length-take}
use lib.Seq.{take-nil, take-take, get_or-take}
use Rattle.midi_file.specs.File.{byte, part, number_at, same_bytes, header_letters, track_letters, chunk_length, chunk_end, track_from, track_of}
use Rattle.midi_file.specs.Strokes.{Rule}
use Rattle.midi_file.specs.Calls.{file_strokes, file_refusal}
use Rattle.midi_file.proofs.Chunks.{Header, track-place, track-within}
use Rattle.midi_laws.proofs.Chunks.{track_at, track-behind, by-header, no_fuel, at-track, past-chunk, by-chunk}

-- A part of a list lies in the list up to its end.
part-within : (at n : ℕ) (l : List ℕ) → part l at n ≡ drop at (take (at + n) l)
part-within zero n l = rw zero-add
part-within (suc at) n [] = take-nil n ∙ rw suc-add
part-within (suc at) n (b ∷ l) = rw suc-add (part-within at n l)

-- Two files with the same first bytes: the same parts, numbers and lengths of chunks among them.
module _ (file other : List ℕ) (m : ℕ) (same : take m other ≡ take m file) where
  part_same : (at n : ℕ) → at + n ≤ m → part other at n ≡ part file at n
  part_same at n h =
      rw (part-within at n other, part-within at n file, ← take-take (at + n) m other h, ← take-take (at + n) m file h, same)

  number_same : (at n : ℕ) → at + n ≤ m → number_at other at n ≡ number_at file at n
  unfolding number_at
  number_same at zero h = refl
  number_same at (suc n) h =
      let first : byte other (at + n) ≡ byte file (at + n) =
      rw (← get_or-take m other (at + n) 0 (omega arith), ← get_or-take m file (at + n) 0 (omega arith), same)
      in
      rw (first, number_same at n (omega arith))

-- Another file with the same bytes up to the track's end, and more fuel than bytes behind the place, has the track too.
module _ (file other : List ℕ) (start n : ℕ) (same : take (start + n) other ≡ take (start + n) file) (long : start + n ≤ length other) where
  chunk-same : (at : ℕ) → at + 8 ≤ start + n → chunk_length other at ≡ chunk_length file at
  chunk-same at h = number_same file other (start + n) same (at + 4) 4 (omega arith)

  track-same :
      (fuel more at : ℕ) → length other < at + more → track_from fuel file at ≡ track_at start n → track_from more other at ≡ track_at start n
  track-same zero more at h e = no_fuel file at start n e
  track-same (suc fuel) zero at h e = let q = track-place file (suc fuel) at _ e in absurd (omega arith)
  track-same (suc fuel) (suc more) at h e =
      let q = track-place file (suc fuel) at _ e in
      let sized = chunk-same at (omega arith) in
      let typed = ap (λ (l : List ℕ). same_bytes l track_letters) (part_same file other (start + n) same at 4 (omega arith)) in
      by-chunk file fuel at start n e
      (λ whole l s k. at-track other more at (omega arith) (typed ∙ l) ∙ (cc))
      (λ whole l next.
      let r = track-place file fuel (chunk_end file at) _ next in
      past-chunk other more at (omega arith) (typed ∙ l) ∙ rw sized (track-same fuel more (chunk_end file at) (omega arith) next))

  header-same : Header file → chunk_end file 0 ≤ start → Header other
  header-same h l =
      let sized = chunk-same 0 (omega (arith, h.long)) in
      record {
        whole = omega arith;
        letters = ap (λ (l : List ℕ). same_bytes l header_letters) (part_same file other (start + n) same 0 4 (omega arith)) ∙ h.letters;
        long = omega (arith, h.long);
        format = number_same file other (start + n) same 8 2 (omega (arith, h.long)) ∙ h.format;
        single = number_same file other (start + n) same 10 2 (omega (arith, h.long)) ∙ h.single;
      }

module _
    (file other : List ℕ)
    (start n : ℕ)
    (e : track_of file ≡ track_at start n)
    (same : take (start + n) other ≡ take (start + n) file)
  where
    long-enough : start + n ≤ length other
    long-enough =
        let within = track-within file _ e in
        omega (arith, length-take (start + n) other, length-take (start + n) file, ap length same)

    pub behind-track : (track_of other ≡ track_at start n) × (part other start n ≡ part file start n)
    behind-track = (
      by-header file start n e
          (λ h found.
          let q = track-place file (suc (length file)) (chunk_end file 0) _ found in
          let header = header-same file other start n same long-enough h (omega arith) in
          let sized = chunk-same file other start n same long-enough 0 (omega arith) in
          track-behind other header
          ∙ rw sized
          (track-same file other start n same long-enough (suc (length file)) (suc (length other)) (chunk_end file 0) (omega arith) found)),
      part_same file other (start + n) same start n (omega arith),
    )

-- The same strokes and the same refusal, whatever the rule.
pub behind-same :
    (rule : Rule) (file other : List ℕ) (start n : ℕ)
    → track_of file ≡ track_at start n
    → take (start + n) other ≡ take (start + n) file
    → (file_refusal rule other ≡ file_refusal rule file) × (file_strokes rule other ≡ file_strokes rule file)
unfolding file_refusal file_strokes
behind-same rule file other start n e same =
    let q = behind-track file other start n e same in
    (rw (file_refusal, q.0, e, q.1), rw (file_strokes, q.0, e, q.1))
