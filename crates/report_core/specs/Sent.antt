-- How much of the output a run of the printing program has written, whatever input is still to come.
use Rattle.std.specs.Prelude.{ℕ, ◌≤◌, ◌≡◌, ◌⊎◌, List, [], ◌++◌, length}
use Rattle.report_core.specs.declared.Progress.{Progress}
use Rattle.report_core.specs.Output.{card_bytes, output}
use Rattle.report_core.specs.Progress.{pending}

-- `input` was read, so many bytes, and `said` is what was written, so many bytes. Whatever is still to come (nothing, where the input ended
-- before the bytes on which a card is judged): the output is what was written, and then what is still to be printed.
pub record Sent (input : List ℕ) (refusal : ℕ) (p : Progress) (read written : ℕ) : Type 0 where
  pub said : List ℕ
  pub all_read : read ≡ length input
  pub all-written : written ≡ length said
  pub lines :
      (rest : List ℕ)
      → (card_bytes ≤ length input) ⊎ (rest ≡ [])
      → output (input ++ rest) ≡ said ++ pending refusal p rest

-- The whole output of an input of so many bytes was written, so many bytes.
pub record Whole (read written : ℕ) : Type 0 where
  pub input : List ℕ
  pub all_read : read ≡ length input
  pub all-written : written ≡ length (output input)

-- Of an input that begins with so many bytes, so many bytes of output were written: its beginning, however it goes on.
pub record Partly (read written : ℕ) : Type 0 where
  pub input : List ℕ
  pub said : List ℕ
  pub all_read : read ≡ length input
  pub all-written : written ≡ length said
  pub lines : (rest : List ℕ) → (more : List ℕ) × (output (input ++ rest) ≡ said ++ more)
