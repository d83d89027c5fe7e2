-- A small writer of format 0 files: channel messages with explicit or running status, and meta events between them.
use Rattle.std.specs.Prelude.{ℕ, zero, suc, ◌+◌, ◌/◌, ◌%◌, ◌^◌, ◌<◌, ◌≤◌, ◌≡◌, Bool, true, cond, not, ◌&&◌, List, [], ◌∷◌, ◌++◌, eqb, ltb, length}
use Rattle.midi_file.specs.declared.Bells.{Bells}
use Rattle.midi_file.specs.File.{header_letters, track_letters}
use Rattle.midi_file.specs.Track.{data_count}
use Rattle.midi_file.specs.Strokes.{is_outside, is_note_on}

-- What is written, each behind its time: a message of two data bytes, without its status where that is wanted and is the running one; a
-- meta event of a type with its bytes.
pub data Item : Type 0 where
  Channel : (time status : ℕ) → (brief : Bool) → (first second : ℕ) → Item
  Aside : (time type : ℕ) → (bytes : List ℕ) → Item

-- a number below 2 ^ 28 as a quantity, in as few bytes as can be: those before the last have the eighth bit set
unfoldable pub leading : ℕ → ℕ → List ℕ
leading zero n = []
leading (suc most) n = cond (eqb n 0) [] (leading most (n / 128) ++ (128 + n % 128) ∷ [])

abbrev pub quantity_bytes : ℕ → List ℕ
quantity_bytes n = leading 3 (n / 128) ++ n % 128 ∷ []

abbrev pub quantity_limit : ℕ
quantity_limit = 2 ^ 28

unfoldable pub status_bytes : ℕ → ℕ → Bool → List ℕ
status_bytes running status brief = cond (brief && eqb running status) [] (status ∷ [])

unfoldable pub item_bytes : ℕ → Item → List ℕ
item_bytes running (Channel time status brief first second) =
    quantity_bytes time ++ status_bytes running status brief ++ first ∷ second ∷ []
item_bytes running (Aside time type bytes) = quantity_bytes time ++ 255 ∷ type ∷ quantity_bytes (length bytes) ++ bytes

abbrev pub running_after : Item → ℕ
running_after (Channel time status brief first second) = status
running_after (Aside time type bytes) = 0

-- end of track, behind a time of 0
abbrev pub end_of_track : List ℕ
end_of_track = 0 ∷ 255 ∷ 47 ∷ 0 ∷ []

unfoldable pub items_bytes : ℕ → List Item → List ℕ
items_bytes running [] = end_of_track
items_bytes running (item ∷ items) = item_bytes running item ++ items_bytes (running_after item) items

-- a number below 2 ^ 32 in four bytes, the most significant first
abbrev pub four_bytes : ℕ → List ℕ
four_bytes n = n / 16777216 % 256 ∷ n / 65536 % 256 ∷ n / 256 % 256 ∷ n % 256 ∷ []

abbrev pub chunk_limit : ℕ
chunk_limit = 2 ^ 32

-- The header: format 0, one track, and a division.
abbrev pub header_bytes : ℕ → List ℕ
header_bytes division = header_letters ++ four_bytes 6 ++ 0 ∷ 0 ∷ 0 ∷ 1 ∷ division / 256 % 256 ∷ division % 256 ∷ []

abbrev pub track_bytes : List Item → List ℕ
track_bytes items = items_bytes 0 items

unfoldable pub file_of : ℕ → List Item → List ℕ
file_of division items = header_bytes division ++ track_letters ++ four_bytes (length (track_bytes items)) ++ track_bytes items

-- What a file can say: times and lengths are quantities; statuses are those of messages with two data bytes, which are below 128; no meta
-- event is an end of track.
abbrev pub Sayable : Item → Type 0
Sayable (Channel time status brief first second) =
    (time < quantity_limit)
    × ((128 ≤ status) × (status < 240) × (data_count status ≡ 2))
    × ((first < 128) × (second < 128))
Sayable (Aside time type bytes) = (time < quantity_limit) × ((type ≡ 47 → ⊥) × (length bytes < quantity_limit))

abbrev pub EachSayable : List Item → Type 0
EachSayable [] = Unit {0}
EachSayable (item ∷ items) = Sayable item × EachSayable items

-- The notes that sound: Note On with a velocity above 0.
abbrev pub sounds : ℕ → ℕ → Bool
sounds status velocity = is_note_on status && ltb 0 velocity

-- Their keys.
unfoldable pub keys : List Item → List ℕ
keys [] = []
keys (Channel time status brief key velocity ∷ items) =
    cond (sounds status velocity) (key ∷ keys items) (keys items)
keys (Aside time type bytes ∷ items) = keys items

-- No note that sounds has a key outside the bells.
unfoldable pub all_inside : Bells → List Item → Bool
all_inside bells [] = true
all_inside bells (Channel time status brief key velocity ∷ items) =
    cond (sounds status velocity) (not (is_outside bells key)) true && all_inside bells items
all_inside bells (Aside time type bytes ∷ items) = all_inside bells items
