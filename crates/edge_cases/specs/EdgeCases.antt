-- M1 to M12: document 01's marked edges as one list of cases about the definitions ("Edges, the marked (M) ones proved").
use Rattle.std.specs.Prelude.{ℕ, suc, cond, Option, None, Some, List, [], ◌∷◌, eqb}
use Rattle.std.proofs.Math.Option as math
use Rattle.fingerprint.specs.declared.Key.{Key}
use Rattle.fingerprint.specs.Fingerprint.{fp, same, numbered_key, print_number}
use Rattle.ladder.specs.Prefix.{levels}
use Rattle.ladder.specs.Ladder.{tests_of, answer_at}
use Rattle.signature.specs.Signature.{signature_of}
use Rattle.signature.specs.Calls.{begin_refusal}
use Rattle.matcher.specs.declared.Matcher.{Matcher}
use Rattle.matcher.specs.Matcher.{fresh}
use Rattle.matcher.specs.Stroke.{stroke_answer, after_stroke}

-- A case: what a definition gives, and what document 01 says that it gives.
pub record Case : Type 0 where
  pub got : ℕ
  pub want : ℕ

-- (`gives` binds more tightly than `∷`.)
infix 68 ◌gives◌
abbrev pub ◌gives◌ : ℕ → ℕ → Case
got gives want = record { got = got; want = want }

abbrev pub key : ℕ → Key
key r = numbered_key r

-- The bytes of M9 to M12.
abbrev pub m9 : List ℕ
m9 = 1 ∷ 1 ∷ 1 ∷ 0 ∷ []

abbrev pub m10 : List ℕ
m10 = 1 ∷ 1 ∷ 0 ∷ 2 ∷ []

abbrev pub m11 : List ℕ
m11 = 1 ∷ 1 ∷ 1 ∷ 1 ∷ []

abbrev pub m12 : List ℕ
m12 = 1 ∷ 1 ∷ 0 ∷ 3 ∷ []

-- The ring as a number: 0 where no start rang, and start + 1 where one did.
abbrev pub ring_number : math.Option ℕ → ℕ
ring_number math.none = 0
ring_number (math.some start) = suc start

-- The ring at byte t of a stream, with p as passage and blocks compared by their fingerprints under a key.
abbrev pub ring_at : Key → List ℕ → List ℕ → ℕ → ℕ
ring_at k p stream t = ring_number (answer_at (tests_of (λ u v. same (fp k u) (fp k v)) p) stream t).ring

-- The same of the ring that a stroke answers.
abbrev pub stroke_number : Option ℕ → ℕ
stroke_number None = 0
stroke_number (Some start) = suc start

-- The ring at the last of these bytes, each brought to a watch by a stroke.
unfoldable pub struck_ring : Matcher → List ℕ → ℕ
struck_ring w [] = 0
struck_ring w (b ∷ []) = stroke_number (stroke_answer w b).ring
struck_ring w (b ∷ c ∷ bytes) = struck_ring (after_stroke w b) (c ∷ bytes)

-- 1 for equal lists of bytes, 0 for others.
unfoldable pub same_bytes : List ℕ → List ℕ → ℕ
same_bytes [] [] = 1
same_bytes [] (b ∷ v) = 0
same_bytes (a ∷ u) [] = 0
same_bytes (a ∷ u) (b ∷ v) = cond (eqb a b) (same_bytes u v) 0

unfoldable pub cases : List Case
cases =
    -- "M1 m = 1: k = 0."
    levels 1 gives 0
    -- "M2 m = 2: k = 1."
    ∷ levels 2 gives 1
    -- "M3 m = 3: k = 2."
    ∷ levels 3 gives 2
    -- "M4 m = 5: k = 3."
    ∷ levels 5 gives 3
    -- "M5 m = 1048576: k = 20. 1048577: refusal 2."
    ∷ levels 1048576 gives 20
    ∷ begin_refusal 1048576 (key 2) gives 0
    ∷ begin_refusal 1048577 (key 2) gives 2
    -- "M6 key 1 refused"
    ∷ begin_refusal 1 (key 1) gives 3
    -- "M7 key 2 and M8 2147483646 taken, 2147483647 refused."
    ∷ begin_refusal 1 (key 2) gives 0
    ∷ begin_refusal 1 (key 2147483646) gives 0
    ∷ begin_refusal 1 (key 2147483647) gives 3
    -- "M9 key 2, bytes 1 1 1 0 and M10 1 1 0 2": "M9 and M10 become 29" (document 02, A.4).
    ∷ print_number (fp (key 2) m9) gives 29
    ∷ print_number (fp (key 2) m10) gives 29
    -- "With the first as passage, the second as stream rings start 0 at byte 4, a phantom", and "the phantom still rings": the stream is
    -- not the passage.
    ∷ ring_at (key 2) m9 m10 4 gives suc 0
    ∷ same_bytes m10 m9 gives 0
    -- The strokes ring it too, from the fresh watch of the first one's card on.
    ∷ struck_ring (fresh (signature_of (key 2) m9)) m10 gives suc 0
    -- "M11 key 2, 1 1 1 1 and M12 1 1 0 3": "M11 and M12 become 30".
    ∷ print_number (fp (key 2) m11) gives 30
    ∷ print_number (fp (key 2) m12) gives 30
    ∷ []
