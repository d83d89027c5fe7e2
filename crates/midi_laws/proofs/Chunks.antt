-- The chunks of a file, one by one: its header, a track chunk, and a chunk of another type, each whole.
-- Assumes nothing.
use Prim.Native.Nat.{ℕ, suc, ◌≤◌}
use mathlib.Core.Path.{◌≡◌, sym, ap}
use mathlib.Core.Bool.{true, false}
use mathlib.Core.List.{List}
use native.Mathlib.Omega.{arith}
use lib.Dec.{eqb}
use lib.ListN.{length}
use borrow.Author.Tests.{le-leb, eq-eqb, ne_eqb}
use Rattle.lists.proofs.Laws.{and_both}
use Rattle.lists.proofs.Cases.{by-test}
use Rattle.std.proofs.Common.{Result, Ok, Err}
use Rattle.refusal.specs.declared.Refusal.{Refusal}
use Rattle.midi_file.specs.declared.chunk.Track.{Track}
use Rattle.midi_file.specs.File.{
  number_at,
  track_letters,
  has_letters,
  inside,
  chunk_length,
  chunk_end,
  is_whole,
  is_header,
  track_from,
  track_of,
}
use Rattle.midi_file.proofs.Chunks.{Header, header-facts, whole-bounds}

-- the track chunk whose inside begins at a place and has n bytes
abbrev pub track_at : ℕ → ℕ → Result Track Refusal
track_at start n = Ok (record { start = start; size = n })

-- what is no track is none
no-track : {G : Type 0} (refusal : Refusal) (start n : ℕ) → Err refusal ≡ track_at start n → G
no-track refusal start n q = absurd (let z : ◌≡◌ {A = ℕ} 0 1 = cc in omega arith)

-- where a track begins, and its length
abbrev start-of : Result Track Refusal → ℕ
start-of (Ok track) = track.start
start-of (Err refusal) = 0

abbrev size-of : Result Track Refusal → ℕ
size-of (Ok track) = track.size
size-of (Err refusal) = 0

module _ (file : List ℕ) where
  whole_chunk : (at : ℕ) → chunk_end file at ≤ length file → is_whole file at ≡ true
  whole_chunk at h = and_both (le-leb (inside at) (length file) (omega arith)) (le-leb (chunk_end file at) (length file) h)

  pub is-header : Header file → is_header file ≡ true
  is-header h =
      and_both
      (and_both
      (and_both (and_both (whole_chunk 0 h.whole) h.letters) (le-leb 6 (chunk_length file 0) h.long))
      (eq-eqb (number_at file 8 2) 0 h.format))
      (eq-eqb (number_at file 10 2) 1 h.single)

  pub track-behind : Header file → track_of file ≡ track_from (suc (length file)) file (chunk_end file 0)
  unfolding track_of
  track-behind h = rw (is-header h)

  -- A file with a track has a header, and the track is the first behind it.
  pub by-header :
      {G : Type 0} (start n : ℕ)
      → track_of file ≡ track_at start n
      → (Header file → track_from (suc (length file)) file (chunk_end file 0) ≡ track_at start n → G)
      → G
  unfolding track_of
  by-header start n e f =
      by-test (is_header file) (λ h. f (header-facts file h) (rw h at e)) (λ h. no-track _ start n (rw h at e))

  pub no_fuel : {G : Type 0} (at start n : ℕ) → track_from 0 file at ≡ track_at start n → G
  unfolding track_from
  no_fuel at start n e = no-track _ start n e

  module _ (fuel at : ℕ) where
    -- a track chunk, and one of another type
    pub at-track :
        chunk_end file at ≤ length file
        → has_letters file at track_letters ≡ true
        → track_from (suc fuel) file at ≡ track_at (inside at) (chunk_length file at)
    unfolding track_from
    at-track h e = rw (ne_eqb at (length file) (omega arith), whole_chunk at h, e)

    pub past-chunk :
        chunk_end file at ≤ length file
        → has_letters file at track_letters ≡ false
        → track_from (suc fuel) file at ≡ track_from fuel file (chunk_end file at)
    unfolding track_from
    past-chunk h e = rw (ne_eqb at (length file) (omega arith), whole_chunk at h, e)

    -- Where a track is found, it is one of the two.
    pub by-chunk :
        {G : Type 0} (start n : ℕ)
        → track_from (suc fuel) file at ≡ track_at start n
        → (chunk_end file at ≤ length file → has_letters file at track_letters ≡ true → start ≡ inside at → n ≡ chunk_length file at → G)
        → (chunk_end file at ≤ length file
        → has_letters file at track_letters ≡ false
        → track_from fuel file (chunk_end file at) ≡ track_at start n
        → G)
        → G
    unfolding track_from
    by-chunk start n e found passed =
        by-test (eqb at (length file)) (λ a. no-track _ start n (rw a at e))
        (λ a.
        by-test (is_whole file at)
        (λ w.
        let whole = whole-bounds file at w in
        by-test (has_letters file at track_letters)
        (λ l.
        let z : track_at (inside at) (chunk_length file at) ≡ track_at start n = rw (a, w, l) at e in
        found whole l (sym (ap start-of z)) (sym (ap size-of z)))
        (λ l. passed whole l (rw (a, w, l) at e)))
        (λ w. no-track _ start n (rw (a, w) at e)))
