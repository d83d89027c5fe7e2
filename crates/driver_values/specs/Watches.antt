-- Stages, watches and answers to a byte as numbers, one behind another (differential/calls.py).
use Rattle.std.specs.Prelude.{ℕ, ◌*◌, cond, List, Option, Some, None}
use Rattle.lists.specs.Lists.{tabulate}
use Rattle.stage.specs.declared.Gap.{Gap}
use Rattle.stage.specs.declared.Mark.{Mark}
use Rattle.stage.specs.declared.Progression.{Progression}
use Rattle.stage.specs.declared.Stage.{Stage}
use Rattle.stage.specs.Stages.{stage_count, Stages}
use Rattle.walk.specs.declared.Answer.{Answer}
use Rattle.matcher.specs.declared.Matcher.{Matcher}
use Rattle.driver_input.specs.Input.{number_in, numbers_from, is_set}
use Rattle.driver_values.specs.Cards.{word_in, print_in, card_in}

-- A place in the stream with its F; a step with its print.
unfoldable pub mark_in : List ℕ → Mark
mark_in s = record { at = number_in s 0; print = print_in s 1 }

unfoldable pub gap_in : List ℕ → Gap
gap_in s = record { length = word_in s 0; print = print_in s 1 }

-- A stage: held, first, F_first, last, F_last, step, step print.
unfoldable pub stage_in : List ℕ → Stage
stage_in s =
    record {
      held = word_in s 0;
      first = mark_in (numbers_from s 1);
      last = mark_in (numbers_from s 3);
      step = gap_in (numbers_from s 5);
    }

unfoldable pub stages_in : List ℕ → Stages
stages_in s = tabulate (λ i. stage_in (numbers_from s (7 * i))) stage_count

-- A watch: its card of 23 numbers, t, F_t, 20 stages.
unfoldable pub watch_in : List ℕ → Matcher
watch_in s = record { signature = card_in s; now = mark_in (numbers_from s 23); stages = stages_in (numbers_from s 25) }

-- A set: first, step, how many.
unfoldable pub set_in : List ℕ → Progression
set_in s = record { first = number_in s 0; step = word_in s 1; many = word_in s 2 }

-- Whether a start rang, and which.
unfoldable pub ring_in : List ℕ → Option ℕ
ring_in s = cond (is_set (number_in s 0)) (Some (number_in s 1)) None

-- An answer: the ring, how many sets, how many comparisons, 20 sets.
unfoldable pub answer_in : List ℕ → Answer
answer_in s =
    record {
      ring = ring_in s;
      sets = tabulate (λ i. set_in (numbers_from (numbers_from s 4) (3 * i))) stage_count;
      asides = word_in s 2;
      comparisons = word_in s 3;
    }
