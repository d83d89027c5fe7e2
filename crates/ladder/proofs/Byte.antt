-- What a byte does to the stages, in closed form: which starts are tried, what each stage lists then, the ring, the sets set aside and how
-- many starts are taken off. Step.antt shows that a step of the ladder is this.
use Prim.Native.Nat.{ℕ, zero, suc, ◌+◌, ◌-◌}
use mathlib.Core.Path.{◌≡◌}
use mathlib.Core.Bool.{Bool, true, cond, not, ◌&&◌}
use mathlib.Core.List.{List, [], ◌++◌}
use mathlib.Core.Option.{Option, none, some}
use lib.ListN.{length, take}
use lib.Dec.{eqb}
use Rattle.ladder.specs.Prefix.{block, levels, prefix_length}
use Rattle.ladder.specs.Ladder.{Tests, Progression, Stages, without, Entered, Walk, enter, ripe, after}

-- A byte as the ladder meets it: the tests, the history with this byte, and the stages before it.
pub record Byte : Type 0 where
  pub tests : Tests
  pub history : List ℕ
  pub stages : Stages

module _ (c : Byte) where
  -- k, |P_i|, and the start that is due at P_i: t - |P_i|
  abbrev pub top : ℕ
  top = levels c.tests.length

  abbrev pub size : ℕ → ℕ
  size i = prefix_length c.tests.length i

  abbrev pub due : ℕ → ℕ
  due i = length c.history - size i

  -- Whether a start is compared with P_i at this byte: at P_0 always, further up if the stage below lists the start due.
  unfoldable pub tested : ℕ → Bool
  tested zero = true
  tested (suc i) = ripe c.history (size (suc i)) (c.stages i)

  abbrev pub agrees : ℕ → Bool
  agrees i = c.tests.matches i (block c.history (due i) (size i))

  abbrev pub matched : ℕ → Bool
  matched i = tested i && agrees i

  -- What is left of stage i once its ripe start was taken off.
  abbrev pub rest : ℕ → List ℕ
  rest i = cond (tested (suc i)) (without (c.stages i) (due (suc i))) (c.stages i)

  -- Whether a start enters stage i at this byte, and what becomes of the stage.
  abbrev pub enters : ℕ → Bool
  enters i = matched i && not (eqb i top)

  abbrev pub joins : List ℕ → ℕ → Entered
  joins = enter c.tests c.history

  abbrev pub came : ℕ → Bool → Entered
  came i x = cond x (joins (rest i) (due i)) (record { listed = rest i; aside = [] })

  abbrev pub entered : ℕ → Entered
  entered i = came i (enters i)

  -- The sets set aside in the stages below i, highest stage first.
  unfoldable pub asides : ℕ → List Progression
  asides zero = []
  asides (suc i) = (entered i).aside ++ asides i

  -- How many of the stages below i have a ripe start.
  unfoldable pub ripes : ℕ → ℕ
  ripes zero = 0
  ripes (suc i) = cond (tested (suc i)) 1 0 + ripes i

  abbrev pub rung : Option ℕ
  rung = cond (matched top) (some (due top)) none

  -- A walk that has come to this.
  pub record Stepped (w : Walk) : Type 0 where
    pub stage : (i : ℕ) → w.stages i ≡ (entered i).listed
    pub ring : w.answer.ring ≡ rung
    pub aside : w.answer.aside ≡ asides top
    pub comparisons : w.answer.comparisons ≡ suc (ripes top)

-- Byte number t + 1 of a stream h.
abbrev pub byte_at : Tests → List ℕ → ℕ → Byte
byte_at tests h t = record { tests = tests; history = take (suc t) h; stages = after tests h t }
