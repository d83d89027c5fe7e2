-- Passing over one byte after the other: what the loop keeps, from its begin to its end.
-- Assumes nothing.
use Prim.Native.Nat.{ℕ, ◌+◌, ◌-◌, ◌≤◌, ◌<◌}
use mathlib.Core.Path.{◌≡◌, sym, ◌∙◌}
use mathlib.Core.Bool.{true, false}
use mathlib.Core.Logic.{◌⊎◌, inl, inr}
use mathlib.Core.List.{List}
use native.Mathlib.Omega.{arith}
use lib.ListN.{length, drop, get_or}
use Rattle.fingerprint.specs.declared.Key.{Key}
use Rattle.fingerprint.specs.declared.Fingerprint.{Fingerprint}
use Rattle.stage.specs.declared.Mark.{Mark}
use Rattle.stage.specs.Stage.{max_taken, next_mark}
use Rattle.walk.specs.Quiet.{is_first}
use Rattle.scanner.specs.Skip.{skipped}
use Rattle.scanner.proofs.Skips.{skipped-none, skipped-all, skipped-stop, skipped-step}

-- The bytes before place i are passed over, and the next ones, `most` in all, may be: they lead where all of them led at first.
pub record Skipping (key : Key) (first : Fingerprint) (most : ℕ) (start : Mark) (input : List ℕ) (i : ℕ) (mark : Mark) : Type 0 where
  pub room : mark.at + (most - i) ≤ max_taken
  pub leads : skipped key first (most - i) mark (drop i input) ≡ skipped key first most start input

module _ {key : Key} {first : Fingerprint} {most : ℕ} {start : Mark} {input : List ℕ} {i : ℕ} {mark : Mark}
    (q : Skipping key first most start input i mark) where
  -- no byte is left, or no more may be passed over
  pub skipping_end : most ≤ i ⊎ length input ≤ i → mark ≡ skipped key first most start input
  skipping_end (inl l) = sym (skipped-none key first input mark (most - i) i (omega arith)) ∙ q.leads
  skipping_end (inr l) = sym (skipped-all key first input mark (most - i) i l) ∙ q.leads

  -- a byte is left
  module _ (more : i < most) (inside : i < length input) where
    pub skipping_stop : is_first first (get_or input i 0) ≡ true → mark ≡ skipped key first most start input
    skipping_stop e = sym (skipped-stop key first input mark (most - i) i (omega arith) inside e) ∙ q.leads

    pub skipping_step :
        is_first first (get_or input i 0) ≡ false
        → (next : Mark)
        → next ≡ next_mark key mark (get_or input i 0)
        → Skipping key first most start input (i + 1) next
    skipping_step e next n =
        let less : most - (i + 1) ≡ most - i - 1 = omega arith in
        rw n
        (record {
          room = omega (arith, q.room);
          leads = rw less (sym (skipped-step key first input mark (most - i) i (omega arith) inside e) ∙ q.leads);
        })
