-- What the function behind `feed` promises, which takes as many bytes as it can note and puts their lines.
use Rattle.std.specs.Prelude.{ℕ, ◌+◌, ◌-◌, ◌*◌, ◌≤◌, ◌<◌, ◌≡◌, cond, List, ◌++◌, length, take, drop, eqb}
use Rattle.refusal.specs.Number.{number}
use Rattle.stage.specs.Stage.{max_taken}
use Rattle.report_core.specs.declared.Progress.{Progress}
use Rattle.report_core.specs.declared.Fed.{Fed}
use Rattle.report_core.specs.Progress.{most_comparisons, stopped, behind, heard_while, room_in}

-- From p on, with so many bytes taken and so many used: the lines of some bytes more stand at their place, and what the bytes bring is these lines
-- and then what comes behind them. A byte is taken or refused.
pub record Turns (p : Progress) (bytes : List ℕ) (taken used : ℕ) (entry : List ℕ) (r : Fed) (exit : List ℕ) : Type 0 where
  pub lines : List ℕ
  pub same :
      heard_while (room_in (length entry)) used p (drop taken bytes)
      ≡ behind (r.taken - taken) lines
      (cond (eqb (number r.verdict) 0)
      (heard_while (room_in (length entry)) r.used r.progress (drop r.taken bytes))
      (stopped r.progress (number r.verdict)))
  pub onward : taken ≤ r.taken
  pub moves : number r.verdict ≡ 0 → taken < r.taken
  pub place : r.used ≡ used + length lines
  pub buffer : exit ≡ take used entry ++ lines ++ drop (used + length lines) entry
  pub limit : r.progress.matcher.now.at ≤ max_taken
  pub fits : r.progress.total ≤ most_comparisons * r.progress.matcher.now.at
