-- Raised marks: the block between two of them is that between the marks, and what goes on from one goes on from the other.
-- Assumes nothing.
use Prim.Native.Nat.{ℕ, ◌+◌, ◌-◌, ◌≤◌}
use mathlib.Core.Path.{◌≡◌, ◌∙◌, ap}
use native.Mathlib.Omega.{arith}
use Rattle.fingerprint.specs.declared.Key.{Key}
use Rattle.fingerprint.specs.Fingerprint.{rest}
use Rattle.fingerprint.proofs.Behind.{rest-behind, joined-behind, pushed-behind}
use Rattle.stage.specs.declared.Mark.{Mark}
use Rattle.stage.specs.declared.Gap.{Gap}
use Rattle.stage.specs.Stage.{gap_to, forward, next_mark}
use Rattle.raising.specs.Raised.{raised_mark}

-- a mark and a gap are their fields
mark-by : {a b : Mark} → a.at ≡ b.at → a.print ≡ b.print → a ≡ b
mark-by e f = λ i. record { at = e i; print = f i }

gap_by : {a b : Gap} → a.length ≡ b.length → a.print ≡ b.print → a ≡ b
gap_by e f = λ i. record { length = e i; print = f i }

module _ (key : Key) (base : Mark) where
  abbrev up : Mark → Mark
  up = raised_mark key base

  pub gap-raised : (a b : Mark) → a.at ≤ b.at → gap_to key (up a) (up b) ≡ gap_to key a b
  gap-raised a b l =
      let same : base.at + b.at - (base.at + a.at) ≡ b.at - a.at = omega arith in
      gap_by same
      (ap (λ (n : ℕ). rest key (up b).print (up a).print n) same
      ∙ rest-behind key base.print a.print b.print a.at b.at l)

  pub forward-raised : (a : Mark) (g : Gap) → forward key (up a) g ≡ up (forward key a g)
  forward-raised a g = mark-by (omega arith) (joined-behind key base.print a.print g.print a.at g.length)

  pub next-raised : (a : Mark) (byte : ℕ) → next_mark key (up a) byte ≡ up (next_mark key a byte)
  next-raised a byte = mark-by (omega arith) (pushed-behind key base.print a.print byte a.at)
