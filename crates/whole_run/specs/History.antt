-- Histories (document 01, "Whole runs").
use Rattle.std.specs.Prelude.{ℕ, zero, suc, List, map, get_or}
use Rattle.ladder.specs.Ladder as ladder
use Rattle.walk.specs.declared.Answer.{Answer}
use Rattle.walk.specs.Walk.{no_answer}
use Rattle.refinement.specs.Refinement.{read_answer}

-- A byte taken, with the answer given at it.
pub record Taken : Type 0 where
  pub byte : ℕ
  pub answer : Answer

-- "A history is the bytes taken, in order, each with the answer given at it."
abbrev pub History : Type 0
History = List Taken

abbrev pub bytes_of : History → List ℕ
bytes_of h = map (λ x. x.byte) h

-- The answer given at byte number n, counted from 1. (There is no byte number 0.)
abbrev pub answers_of : History → ℕ → ladder.Answer
answers_of h zero = read_answer no_answer
answers_of h (suc n) = read_answer (get_or h n (record { byte = 0; answer = no_answer })).answer
