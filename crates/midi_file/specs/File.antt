-- A Standard MIDI File (document 02, A.2) as its chunks: the header chunk, and the first track chunk behind it.
use Rattle.std.specs.Prelude.{ℕ, zero, suc, Result, Ok, Err, ◌+◌, ◌*◌, Bool, true, false, cond, not, ◌&&◌, List, [], ◌∷◌, eqb, leb, length, get_or, take, drop}
use Rattle.refusal.specs.declared.Refusal.{Refusal}
use Rattle.refusal.specs.declared.Refusal.TheVariants.{NoTrack, Broken}
use Rattle.midi_file.specs.declared.chunk.Track.{Track}

-- the byte at a place
abbrev pub byte : List ℕ → ℕ → ℕ
byte s at = get_or s at 0

-- so many bytes from a place on
abbrev pub part : List ℕ → ℕ → ℕ → List ℕ
part s at n = take n (drop at s)

-- The number in so many bytes from a place on, the most significant byte first.
unfoldable pub number_at : List ℕ → ℕ → ℕ → ℕ
number_at s at zero = 0
number_at s at (suc n) = 256 * number_at s at n + byte s (at + n)

-- whether two lists of bytes are the same
unfoldable pub same_bytes : List ℕ → List ℕ → Bool
same_bytes [] [] = true
same_bytes [] (b ∷ t) = false
same_bytes (a ∷ s) [] = false
same_bytes (a ∷ s) (b ∷ t) = eqb a b && same_bytes s t

-- the letters MThd, MTrk
abbrev pub header_letters : List ℕ
header_letters = 77 ∷ 84 ∷ 104 ∷ 100 ∷ []

abbrev pub track_letters : List ℕ
track_letters = 77 ∷ 84 ∷ 114 ∷ 107 ∷ []

-- A chunk: four letters, a length in four bytes, and so many bytes.
abbrev pub has_letters : List ℕ → ℕ → List ℕ → Bool
has_letters file at letters = same_bytes (part file at 4) letters

abbrev pub inside : ℕ → ℕ
inside at = at + 8

abbrev pub chunk_length : List ℕ → ℕ → ℕ
chunk_length file at = number_at file (at + 4) 4

abbrev pub chunk_end : List ℕ → ℕ → ℕ
chunk_end file at = inside at + chunk_length file at

-- The chunk at a place is all there, and so are its eight leading bytes.
abbrev pub is_whole : List ℕ → ℕ → Bool
is_whole file at = leb (inside at) (length file) && leb (chunk_end file at) (length file)

-- "A complete header of at least six bytes, format 0 and one track, its skipped bytes included."
abbrev pub is_header : List ℕ → Bool
is_header file =
    is_whole file 0
    && has_letters file 0 header_letters
    && leb 6 (chunk_length file 0)
    && eqb (number_at file 8 2) 0
    && eqb (number_at file 10 2) 1

-- The first track chunk among those that stand from a place on: where its inside begins, and its length. "A file that ends at a chunk's
-- end with no MTrk" misses it; a chunk that is cut short comes before its inside; chunks of other types are passed over. Each chunk has
-- eight bytes at least, so a file has more fuel than chunks.
unfoldable pub track_from : ℕ → List ℕ → ℕ → Result Track Refusal
track_from zero file at = Err NoTrack
track_from (suc fuel) file at =
    cond (eqb at (length file)) (Err NoTrack)
    (cond (not (is_whole file at)) (Err Broken)
    (cond (has_letters file at track_letters) (Ok (record { start = inside at; size = chunk_length file at }))
    (track_from fuel file (chunk_end file at))))

-- The file's track chunk: the first behind the header.
unfoldable pub track_of : List ℕ → Result Track Refusal
track_of file = cond (is_header file) (track_from (suc (length file)) file (chunk_end file 0)) (Err NoTrack)
