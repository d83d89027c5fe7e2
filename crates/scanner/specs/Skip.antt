-- Definitions for the functions behind `scan`: bytes that can change no stage are passed over together.
use Rattle.std.specs.Prelude.{ℕ, zero, suc, ◌+◌, ◌≡◌, cond, List, [], ◌∷◌, ◌++◌, length, drop, Result}
use Rattle.fingerprint.specs.declared.Key.{Key}
use Rattle.fingerprint.specs.declared.Fingerprint.{Fingerprint}
use Rattle.refusal.specs.declared.Refusal.{Refusal}
use Rattle.refusal.specs.Number.{number}
use Rattle.stage.specs.declared.Mark.{Mark}
use Rattle.stage.specs.Stage.{next_mark}
use Rattle.walk.specs.Quiet.{is_first}
use Rattle.matcher.specs.declared.Matcher.{Matcher}
use Rattle.scanner.specs.declared.Ended.{Ended}
use Rattle.scanner.specs.Scan.{Scanned}

-- t and F_t behind the bytes passed over: at most n of them, and none from the first byte on that is P_0.
unfoldable pub skipped : Key → Fingerprint → ℕ → Mark → List ℕ → Mark
skipped key first zero now bytes = now
skipped key first (suc n) now [] = now
skipped key first (suc n) now (byte ∷ bytes) =
    cond (is_first first byte) now (skipped key first n (next_mark key now byte) bytes)

-- The end of a run: the watch, how many numbers were noted, all comparisons, the place behind the last byte taken, and the verdict.
abbrev pub end_of : Matcher → ℕ → ℕ → ℕ → Result (Unit {0}) Refusal → Ended
end_of matcher noted comparisons next verdict =
    record { matcher = matcher; noted = noted; comparisons = comparisons; next = next; verdict = verdict }

-- What a run of strokes from a place of the input on hands back, and what it leaves in the list lent to it: the notes, and behind them what was
-- there.
pub record Ends (from : ℕ) (s : Scanned) (entry : List ℕ) (r : Ended) (exit : List ℕ) : Type 0 where
  pub matcher : r.matcher ≡ s.matcher
  pub noted : r.noted ≡ length s.notes
  pub notes : exit ≡ s.notes ++ drop (length s.notes) entry
  pub comparisons : r.comparisons ≡ s.comparisons
  pub next : r.next ≡ from + s.taken
  pub verdict : number r.verdict ≡ s.refusal
