-- What the calls that write and read records have in common: the number of a refusal, 0 where a call is accepted, what a writer hands back,
-- and the buffer as it leaves it (document 01, "Records" and "The board's refusals").
use Rattle.std.specs.Prelude.{ℕ, ◌+◌, cond, List, ◌++◌, length, drop, ltb, eqb}
use Rattle.record.specs.Layout.{length_width, length_field, kind_of}

-- A refusal is given before another.
abbrev pub before : ℕ → ℕ → ℕ
before first second = cond (eqb first 0) second first

-- Writing: what judging the value handed in came to, "then .. 7".
abbrev pub put_refusal : ℕ → List ℕ → List ℕ → ℕ
put_refusal judged bytes entry = before judged (cond (ltb (length entry) (length bytes)) 7 0)

-- the bytes used
abbrev pub put_used : ℕ → List ℕ → List ℕ → ℕ
put_used judged bytes entry = cond (eqb (put_refusal judged bytes entry) 0) (length bytes) 0

-- "A writer fills the front of the part lent to it and touches nothing behind."
abbrev pub put_buffer : ℕ → List ℕ → List ℕ → List ℕ
put_buffer judged bytes entry = cond (eqb (put_refusal judged bytes entry) 0) (bytes ++ drop (length bytes) entry) entry

-- "Reading: 8, length under 2 (10), 9, length too small (10)": what each record's head is asked, by its kind and least length.
unfoldable pub head_refusal : ℕ → ℕ → List ℕ → ℕ
head_refusal kind least s =
    cond (ltb (length s) length_width) 8
    (cond (ltb (length s) (length_field s + length_width)) 8
    (cond (ltb (length_field s) 2) 10
    (cond (eqb (kind_of s) kind)
    (cond (ltb (length_field s) least) 10 0)
    9)))
