-- The stages of a watch: each is reached by its number, whatever they are laid out in.
use Rattle.std.specs.Prelude.{ℕ, ◌≡◌, Bool, true, cond, ◌&&◌, List, leb, eqb, length, get_or, set, replicate}
use Rattle.lists.specs.Lists.{every, tabulate}
use Rattle.fingerprint.specs.declared.Key.{Key}
use Rattle.stage.specs.declared.Stage.{Stage}
use Rattle.stage.specs.Stage.{no_stage, shape_fits, stage_fits}

-- Places for stages: 0 to 19.
abbrev pub stage_count : ℕ
stage_count = 20

-- What a watch keeps: 20 stages.
abbrev pub Stages : Type 0
Stages = List Stage

-- There are as many as there must be.
abbrev pub Whole : Stages → Type 0
Whole stages = length stages ≡ stage_count

abbrev pub stage_at : Stages → ℕ → Stage
stage_at stages i = get_or stages i no_stage

-- the same stages, but for stage i
abbrev pub with_stage : Stages → ℕ → Stage → Stages
with_stage stages i s = set stages i s

-- the stages that have these at their numbers
abbrev pub stages_of : (ℕ → Stage) → Stages
stages_of f = tabulate f stage_count

-- "nothing listed"
abbrev pub no_stages : Stages
no_stages = replicate stage_count no_stage

abbrev pub fits_at : Key → ℕ → ℕ → Stages → ℕ → Bool
fits_at key m t stages i = stage_fits key m i t (stage_at stages i)

-- Each stage of a watch over m bytes fits at t.
abbrev pub stages_fit : Key → ℕ → ℕ → Stages → Bool
stages_fit key m t stages = every (fits_at key m t stages) stage_count

-- Each fits by document 01's rules alone, which keep every number in its range.
abbrev pub shape_at : ℕ → ℕ → Stages → ℕ → Bool
shape_at m t stages i = shape_fits m i t (stage_at stages i)

abbrev pub shapes_fit : ℕ → ℕ → Stages → Bool
shapes_fit m t stages = every (shape_at m t stages) stage_count

-- "a start below c" (document 02, A.1) is a misfit: whether a stage lists none.
abbrev pub listed_from : ℕ → Stage → Bool
listed_from c s = cond (eqb s.held 0) true (leb c s.first.at && leb c s.last.at)

abbrev pub all_from : ℕ → Stages → Bool
all_from c stages = every (λ i. listed_from c (stage_at stages i)) stage_count
