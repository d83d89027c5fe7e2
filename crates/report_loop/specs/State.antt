-- What the functions of the program promise. All bytes that were read, and all that were written, are counted in the state; the toolchain's
-- own read and write are the only calls of which nothing is said (docs/DECISIONS.md, "Read and write").
use Rattle.std.specs.Prelude.{ℕ, ◌+◌, ◌*◌, ◌≤◌, ◌≡◌, Bool, true, false, ◌&&◌, List, length, take, ltb, leb, eqb, Result, Ok, Err}
use Rattle.refusal.specs.Number.{number}
use Rattle.stage.specs.Stage.{max_taken}
use Rattle.report_core.specs.declared.Progress.{Progress}
use Rattle.report_core.specs.Output.{card_bytes}
use Rattle.report_core.specs.Progress.{progress_fits, heard}
use Rattle.report_core.specs.Calls.{last_lines}
use Rattle.report_core.specs.Sent.{Sent, Whole, Partly}
use Rattle.report_loop.specs.declared.Counts.{Counts}
use Rattle.report_loop.specs.declared.Failure.{Failure}
use Rattle.report_loop.specs.declared.Failure.TheVariants.{Unreadable, Unwritable}
use Rattle.report_loop.specs.declared.State.{State}

-- The size of the output buffer: no byte's lines are longer, so no more than so many times t bytes are written before the last lines.
abbrev pub buffer_size : ℕ
buffer_size = 65536

-- The progress is no misfit, and no more was written than t bytes can bring.
pub record Sound (p : Progress) (written : ℕ) : Type 0 where
  pub fits : progress_fits p ≡ true
  pub few : written ≤ buffer_size * p.matcher.now.at

-- Lines were written behind so many bytes, and count; or they could not be.
abbrev pub Sends : ℕ → List ℕ → Result ℕ Failure → Type 0
Sends written lines (Ok n) = n ≡ written + length lines
Sends written lines (Err e) = e ≡ Unwritable

-- A chunk was taken, from a progress and so many bytes written on: the state is that behind the chunk's bytes, and their lines were written.
pub record Took (p : Progress) (before : ℕ) (chunk : List ℕ) (r : State) : Type 0 where
  pub verdict : number r.verdict ≡ (heard p chunk).refusal
  pub progress : r.progress ≡ (heard p chunk).progress
  pub written : r.counts.written ≡ before + length (heard p chunk).lines
  pub sound : Sound r.progress r.counts.written

-- A chunk was passed: all its bytes were taken, and the run goes on as before; or one was refused, and the run ends. Or its lines could not be
-- written.
pub record Went (s : State) (chunk : List ℕ) (r : State) : Type 0 where
  pub took : Took s.progress s.counts.written chunk r
  pub read : r.counts.read ≡ s.counts.read
  pub goes : r.more ≡ s.more && eqb (number r.verdict) 0

abbrev pub Passed : State → List ℕ → Result State Failure → Type 0
Passed s chunk (Ok r) = Went s chunk r
Passed s chunk (Err e) = e ≡ Unwritable

-- Between two reads: nothing was refused, and all bytes behind the card were taken.
pub record Ready (s : State) : Type 0 where
  pub sound : Sound s.progress s.counts.written
  pub accepted : number s.verdict ≡ 0
  pub near : s.counts.read ≤ s.progress.matcher.now.at + card_bytes

-- A chunk was read into the buffer `input`, and passed: it is the first n bytes of the buffer, which count as read and were taken, and more is to be
-- read only if there was a byte and none was refused. Or the read failed, and nothing has changed; or its lines could not be written.
pub record Came (s : State) (input : List ℕ) (r : State) : Type 0 where
  pub size : ℕ
  pub within : size ≤ length input
  pub read : r.counts.read ≡ s.counts.read + size
  pub took : Took s.progress s.counts.written (take size input) r
  pub goes : r.more ≡ ltb 0 size && eqb (number r.verdict) 0

abbrev pub Turned : State → List ℕ → Result State Failure → Type 0
Turned s input (Ok r) = Came s input r
Turned s input (Err (Unreadable counts)) = counts ≡ s.counts
Turned s input (Err Unwritable) = Unit {0}

-- Where a run stands that has read `input`: what was written is the output of it, as far as that is settled.
pub record Standing (input : List ℕ) (s : State) : Type 0 where
  pub sent : Sent input (number s.verdict) s.progress s.counts.read s.counts.written
  pub few : s.counts.written ≤ buffer_size * max_taken
  pub ready : s.more ≡ true → Ready s × (card_bytes ≤ s.counts.read)

-- Why a run came to no end: a read failed, and what was written is the beginning of the output, however the input goes on; or something could not
-- be written.
abbrev pub Broken : Failure → Type 0
Broken (Unreadable counts) = Partly counts.read counts.written
Broken Unwritable = Unit {0}

-- The front of the input was read into the buffer.
abbrev pub Fronted : List ℕ → Result ℕ Failure → Type 0
Fronted input (Ok n) = (n ≤ card_bytes) × (n ≤ length input)
Fronted input (Err e) = Broken e

-- The run goes on behind the front, of n bytes, unless the input is shorter than the bytes on which a card is judged.
abbrev pub goes_on : ℕ → Bool
goes_on n = leb card_bytes n

-- The card was judged, and what stands behind it was passed: the run goes on as the front says, unless something was refused.
abbrev pub Opened : List ℕ → Result State Failure → Type 0
Opened input (Ok s) = Standing input s × (s.more ≡ goes_on (length input) && eqb (number s.verdict) 0)
Opened input (Err e) = Broken e

-- Behind several chunks, each of which has taken the place of the one before: there is an input that was read.
abbrev pub Stands : State → Type 0
Stands s = (input : List ℕ) × Standing input s

-- Behind all chunks: no more is to be read.
abbrev pub Ends : Result State Failure → Type 0
Ends (Ok s) = Stands s × (s.more ≡ false)
Ends (Err e) = Broken e

-- The last lines were written behind what was, or could not be.
abbrev pub Closed : State → Result Counts Failure → Type 0
Closed s (Ok counts) =
    (counts.read ≡ s.counts.read)
    × (counts.written ≡ s.counts.written + length (last_lines (number s.verdict) s.progress.matcher.now.at s.progress.total))
Closed s (Err e) = e ≡ Unwritable

-- A run is over: the whole output of all that was read was written; or a read failed, and what was written is the beginning of the output, however
-- the input goes on; or something could not be written.
abbrev pub Over : Result Counts Failure → Type 0
Over (Ok counts) = Whole counts.read counts.written
Over (Err e) = Broken e
