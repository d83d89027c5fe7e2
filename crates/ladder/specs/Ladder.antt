-- The ladder of document 01 ("Ladder"), with unlimited lists: demand 2 speaks of this one. A stage is the list of its starts.
-- It is written for any tests: how long the pattern is, and the verdicts of the comparisons. A passage's ladder (`tests_of`) is one.
-- The history h holds the bytes taken so far, the present one included, so t is its length.
use Rattle.std.specs.Prelude.{ℕ, zero, suc, ◌-◌, Bool, false, cond, ◌&&◌, ◌||◌, List, [], ◌∷◌, ◌++◌, length, take, leb, eqb}
use Rattle.std.proofs.Math.Option.{Option, none, some}
use Rattle.ladder.specs.Prefix.{block, levels, prefix_length, prefix}

-- What a ladder asks.
pub record Tests : Type 0 where
  -- "A passage has m bytes": m.
  pub length : ℕ
  -- "the last |P_i| bytes are compared by fingerprint with P_i": whether this block of |P_i| bytes matches P_i.
  pub matches : ℕ → List ℕ → Bool
  -- "the bytes of that gap have the step print": whether these two blocks of one length have one fingerprint.
  pub alike : List ℕ → List ℕ → Bool

-- The tests of a passage p, by a test `agree` that says of two blocks of one length whether their fingerprints are equal: a block is
-- compared with the beginning P_i of the passage, and a gap's bytes with those of the first gap.
abbrev pub tests_of : (List ℕ → List ℕ → Bool) → List ℕ → Tests
tests_of agree p = record { length = length p; matches = λ i bytes. agree bytes (prefix p i); alike = agree }

-- A set that was set aside: "(first, step, how many)".
pub record Progression : Type 0 where
  pub first : ℕ
  pub step : ℕ
  pub many : ℕ

-- "The answer to a byte: whether a start rang, and which; the sets set aside, highest stage first; the number of comparisons".
pub record Answer : Type 0 where
  pub ring : Option ℕ
  pub aside : List Progression
  pub comparisons : ℕ

-- "Stage i, for i = 0 .. k-1, lists starts found to match P_i and not yet tried against P_(i+1)." Past k-1 nothing is ever listed.
abbrev pub Stages : Type 0
Stages = ℕ → List ℕ

-- "A fresh one has .. nothing listed".
abbrev pub no_starts : Stages
no_starts i = []

-- the stages with another list at i
abbrev pub put : Stages → ℕ → List ℕ → Stages
put stages i starts j = cond (eqb j i) starts (stages j)

-- whether the start s is listed
unfoldable pub lists : List ℕ → ℕ → Bool
lists [] s = false
lists (x ∷ xs) s = eqb x s || lists xs s

-- the list with the start s taken off
unfoldable pub without : List ℕ → ℕ → List ℕ
without [] s = []
without (x ∷ xs) s = cond (eqb x s) (without xs s) (x ∷ without xs s)

-- the last of the list x ∷ xs
unfoldable pub last_of : ℕ → List ℕ → ℕ
last_of x [] = x
last_of x (y ∷ ys) = last_of y ys

-- What entering makes of a stage: its list then, and the set set aside, if one was.
pub record Entered : Type 0 where
  pub listed : List ℕ
  pub aside : List Progression

-- What has come of a byte so far: the stages, and the answer as it grows.
pub record Walk : Type 0 where
  pub stages : Stages
  pub answer : Answer

-- A comparison is counted.
abbrev pub counted : Walk → Walk
counted w =
    record {
      stages = w.stages;
      answer = record { ring = w.answer.ring; aside = w.answer.aside; comparisons = suc w.answer.comparisons };
    }

-- The start s is rung.
abbrev pub ringing : ℕ → Walk → Walk
ringing s w =
    record {
      stages = w.stages;
      answer = record { ring = some s; aside = w.answer.aside; comparisons = w.answer.comparisons };
    }

-- "If stage i lists the start t - |P_(i+1)|": there is such a start, and it is listed.
abbrev pub ripe : List ℕ → ℕ → List ℕ → Bool
ripe h n starts = leb n (length h) && lists starts (length h - n)

module _ (tests : Tests) where
  -- "The newcomer is added if its gap to the last start equals the step and the bytes of that gap have the step print." The step is the gap
  -- of the listed starts x and y, the first two, and the step print the fingerprint of the bytes from x to y.
  abbrev pub continues : List ℕ → ℕ → ℕ → ℕ → ℕ → Bool
  continues h x y last new = eqb (new - last) (y - x) && tests.alike (block h last (new - last)) (block h x (y - x))

  -- "Entering: into a stage that lists none or one, the start is added. With two or more .. The newcomer is added if .. Otherwise all
  -- listed starts but the last are set aside, as (first, step, how many); the last and the newcomer remain."
  unfoldable pub enter : List ℕ → List ℕ → ℕ → Entered
  enter h [] new = record { listed = new ∷ []; aside = [] }
  enter h (x ∷ []) new = record { listed = x ∷ new ∷ []; aside = [] }
  enter h (x ∷ y ∷ more) new =
      cond (continues h x y (last_of y more) new)
      (record { listed = x ∷ y ∷ (more ++ new ∷ []); aside = [] })
      (record {
        listed = last_of y more ∷ new ∷ [];
        aside = record { first = x; step = y - x; many = suc (length more) } ∷ [];
      })

  -- The start s enters stage i.
  abbrev pub entering : List ℕ → ℕ → ℕ → Walk → Walk
  entering h i s w =
      record {
        stages = put w.stages i (enter h (w.stages i) s).listed;
        answer =
            record {
              ring = w.answer.ring;
              aside = w.answer.aside ++ (enter h (w.stages i) s).aside;
              comparisons = w.answer.comparisons;
            };
      }

  -- "On a match it is rung if i = k, else it enters stage i": the start s, whose block just matched P_i.
  unfoldable pub promote : List ℕ → ℕ → ℕ → Walk → Walk
  promote h i s w = cond (eqb i (levels tests.length)) (ringing s w) (entering h i s w)

  -- The block behind s is compared by fingerprint with P_i, which counts as one comparison. "Without a match it is dropped."
  unfoldable pub compare : List ℕ → ℕ → ℕ → Walk → Walk
  compare h i s w =
      cond (tests.matches i (block h s (prefix_length tests.length i))) (promote h i s (counted w)) (counted w)

  -- Stage i is visited: its ripe start "is taken off and the last |P_(i+1)| bytes are compared by fingerprint with P_(i+1)".
  unfoldable pub visit : List ℕ → ℕ → Walk → Walk
  visit h i w =
      let n : ℕ = prefix_length tests.length (suc i) in
      let s : ℕ = length h - n in
      cond (ripe h n (w.stages i))
      (compare h (suc i) s (record { stages = put w.stages i (without (w.stages i) s); answer = w.answer }))
      w

  -- "Stages are visited from k-1 down to 0": those below i, the highest first.
  unfoldable pub descend : List ℕ → ℕ → Walk → Walk
  descend h zero w = w
  descend h (suc i) w = descend h i (visit h i w)

  -- "At each byte": the stages, and then "start t-1 is compared with P_0".
  unfoldable pub step : List ℕ → Stages → Walk
  step h stages =
      compare h 0 (length h - 1)
      (descend h (levels tests.length) (record { stages = stages; answer = record { ring = none; aside = []; comparisons = 0 } }))

  -- The stages after the first t bytes of a stream.
  unfoldable pub after : List ℕ → ℕ → Stages
  after h zero = no_starts
  after h (suc t) = (step (take (suc t) h) (after h t)).stages

  -- The answer to byte number t of a stream, counted from 1. (There is no byte number 0.)
  unfoldable pub answer_at : List ℕ → ℕ → Answer
  answer_at h zero = record { ring = none; aside = []; comparisons = 0 }
  answer_at h (suc t) = (step (take (suc t) h) (after h t)).answer
