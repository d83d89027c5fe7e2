-- Numbers of several bytes, bytes compared, and the chunks of a file.
-- Assumes nothing.
use Prim.Native.Nat.{ℕ, zero, suc, ◌+◌, ◌-◌, ◌*◌, ◌^◌, ◌≤◌, ◌<◌}
use mathlib.Core.Path.{◌≡◌, refl, ap, subst, ◌∙◌}
use mathlib.Core.Bool.{true, false, not}
use mathlib.Core.List.{List, [], ◌∷◌}
use native.Mathlib.Numerals.{add-one}
use native.Mathlib.Nat.{pow-suc, pow-le-pow_right}
use native.Mathlib.Omega.{arith}
use lib.Dec.{leb, eqb}
use lib.ListN.{length, get_or, take, drop}
use lib.Seq.{get_or-take, get_or-drop}
use borrow.Author.Tests.{eq-eqb, ne_eqb, leb-true, eqb-true, not-false}
use Rattle.std.proofs.Common.{nat_eq, Result, Ok, Err}
use Rattle.std.specs.Cmp.Lexicographic.{pointwise}
use Rattle.lists.proofs.Laws.{and_right}
use Rattle.lists.proofs.Cases.{each, either}
use Rattle.refusal.specs.declared.Refusal.{Refusal}
use Rattle.refusal.specs.declared.Refusal.TheVariants.{NoTrack, Broken}
use Rattle.midi_file.specs.File.{
  byte,
  number_at,
  same_bytes,
  header_letters,
  track_letters,
  has_letters,
  chunk_length,
  chunk_end,
  is_whole,
  is_header,
  track_from,
  track_of,
}
use Rattle.midi_file.specs.declared.chunk.Track.{Track}

-- a number of at most three bytes leaves room for one more
pub three-bytes : (i : ℕ) → i < 4 → 256 ^ i ≤ 16777216
three-bytes i h = pow-le-pow_right {n = 256} (omega arith) {i = i} {j = 3} (omega arith)

-- The first i bytes of a number were read.
pub record Counted (file : List ℕ) (at number i : ℕ) : Type 0 where
  pub same : number ≡ number_at file at i
  pub small : number < 256 ^ i

pub counted_none : (file : List ℕ) (at : ℕ) → Counted file at 0 0
unfolding number_at
counted_none file at = record { same = refl; small = omega arith }

pub counted-more :
    (file : List ℕ) (at number i : ℕ)
    → Counted file at number i
    → byte file (at + i) < 256
    → Counted file at (256 * number + byte file (at + i)) (i + 1)
unfolding number_at
counted-more file at number i q small =
    record {
      same = rw (add-one, number_at, ← q.same);
      small = rw (add-one, pow-suc) (omega (arith, q.small, small));
    }

-- a byte of a part of the file
pub part-byte : (file : List ℕ) (at n i : ℕ) → i < n → get_or (take (at + n - at) (drop at file)) i 0 ≡ byte file (at + i)
part-byte file at n i l = get_or-take (at + n - at) (drop at file) i 0 (omega arith) ∙ get_or-drop at file i 0

-- two slices are equal where their bytes are the same
pub same-pointwise : (a b : List ℕ) → pointwise nat_eq a b ≡ same_bytes a b
unfolding same_bytes
same-pointwise [] [] = refl
same-pointwise [] (y ∷ b) = refl
same-pointwise (x ∷ a) [] = refl
same-pointwise (x ∷ a) (y ∷ b) = rw (same-pointwise a b)

-- where a chunk that is whole ends
pub whole-bounds : (file : List ℕ) (at : ℕ) → is_whole file at ≡ true → at + 8 + number_at file (at + 4) 4 ≤ length file
whole-bounds file at e = leb-true (at + 8 + number_at file (at + 4) 4) (length file) (and_right (leb (at + 8) (length file)) _ e)

-- The chunks before a place were passed over: the track chunk is the first from there on.
pub record Passed (file : List ℕ) (at : ℕ) : Type 0 where
  pub spare : ℕ
  pub within : at ≤ length file
  pub enough : length file ≤ spare + at
  pub same : track_of file ≡ track_from (suc spare) file at

pub headless : (file : List ℕ) → is_header file ≡ false → track_of file ≡ Err NoTrack
unfolding track_of
headless file e = rw e

-- A header is whole, of its type, of six bytes at least, of format 0 and of one track.
pub record Header (file : List ℕ) : Type 0 where
  pub whole : chunk_end file 0 ≤ length file
  pub letters : has_letters file 0 header_letters ≡ true
  pub long : 6 ≤ chunk_length file 0
  pub format : number_at file 8 2 ≡ 0
  pub single : number_at file 10 2 ≡ 1

pub header-facts : (file : List ℕ) → is_header file ≡ true → Header file
header-facts file e =
    let q =
    each (is_whole file 0)
    (has_letters file 0 header_letters
    ∷ leb 6 (chunk_length file 0)
    ∷ eqb (number_at file 8 2) 0
    ∷ eqb (number_at file 10 2) 1
    ∷ [])
    e
    in
    record {
      whole = whole-bounds file 0 q.0;
      letters = q.1.0;
      long = leb-true 6 (chunk_length file 0) q.1.1.0;
      format = eqb-true (number_at file 8 2) 0 q.1.1.1.0;
      single = eqb-true (number_at file 10 2) 1 q.1.1.1.1.0;
    }

pub passed_none : (file : List ℕ) → is_header file ≡ true → Passed file (chunk_end file 0)
unfolding track_of
passed_none file e =
    record {
      spare = length file;
      within = (header-facts file e).whole;
      enough = omega arith;
      same = rw e;
    }

module _ (file : List ℕ) (at : ℕ) (q : Passed file at) where
  pub passed-all : length file ≤ at → track_of file ≡ Err NoTrack
  unfolding track_from
  passed-all l = q.same ∙ rw (eq-eqb at (length file) (omega (arith, q.within)))

  module _ (l : at < length file) where
    more : eqb at (length file) ≡ false
    more = ne_eqb at (length file) (λ e. omega (arith, e))

    pub passed-cut : is_whole file at ≡ false → track_of file ≡ Err Broken
    unfolding track_from
    passed-cut e = q.same ∙ rw (more, e)

    module _ (e : is_whole file at ≡ true) where
      pub passed-found : has_letters file at track_letters ≡ true → track_of file ≡ Ok (record { start = at + 8; size = number_at file (at + 4) 4 })
      unfolding track_from
      passed-found f = q.same ∙ rw (more, e, f)

      pub passed-more : has_letters file at track_letters ≡ false → Passed file (chunk_end file at)
      unfolding track_from
      passed-more f =
          let s : q.spare ≡ suc (q.spare - 1) = omega (arith, q.enough) in
          let over : track_from (suc q.spare) file at ≡ track_from q.spare file (chunk_end file at) = rw (more, e, f) in
          record {
            spare = q.spare - 1;
            within = whole-bounds file at e;
            enough = omega (arith, q.enough);
            same = q.same ∙ over ∙ ap (λ n. track_from n file (chunk_end file at)) s;
          }

-- A track chunk lies behind a place from which it is looked for, and within the file.
abbrev ChunkEnds : List ℕ → ℕ → Result Track Refusal → Type 0
ChunkEnds file from (Ok track) = (from + 8 ≤ track.start) × (track.start + track.size ≤ length file)
ChunkEnds file from (Err refusal) = Unit {0}

module _ (file : List ℕ) where
  chunk-ends : (fuel from at : ℕ) → from ≤ at → ChunkEnds file from (track_from fuel file at)
  unfolding track_from
  chunk-ends zero from at f = tt
  chunk-ends (suc fuel) from at f =
      either (ChunkEnds file from) (eqb at (length file)) (λ _. tt)
      (λ _. either (ChunkEnds file from) (not (is_whole file at)) (λ _. tt)
      (λ n. either (ChunkEnds file from) (has_letters file at track_letters)
      (λ _. (omega arith, whole-bounds file at (not-false (is_whole file at) n)))
      (λ _. chunk-ends fuel from (chunk_end file at) (omega arith))))

  pub track-place :
      (fuel at : ℕ) (track : Track)
      → track_from fuel file at ≡ Ok track
      → (at + 8 ≤ track.start) × (track.start + track.size ≤ length file)
  track-place fuel at track e = subst (ChunkEnds file at) e (chunk-ends fuel at at (omega arith))

  pub track-within : (track : Track) → track_of file ≡ Ok track → track.start + track.size ≤ length file
  unfolding track_of
  track-within track e =
      let q : ChunkEnds file 0 (Ok track) =
      subst (ChunkEnds file 0) e
      (either (ChunkEnds file 0) (is_header file) (λ _. chunk-ends (suc (length file)) 0 (chunk_end file 0) (omega arith)) (λ _. tt))
      in
      q.1
