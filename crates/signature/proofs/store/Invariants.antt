-- `signature::store` meets its contract: the places that were passed hold what they are to hold, the others what they held.
use Prim.Native.Nat.{ℕ, ◌≤◌, ◌<◌}
use mathlib.Core.Path.{◌≡◌}
use lib.ListN.{length, get_or}
use Rattle.fingerprint.specs.Fingerprint.{empty}
use Rattle.signature.specs.Signature.{stored_at}
use Rattle.signature.proofs.store.Given as goal

abbrev pub invariant-loop-i : goal.invariant-loop-i
invariant-loop-i l =
    record {
      long : length l.prints ≡ 21;
      stored : (k : ℕ) → k < l.i → get_or l.prints k empty ≡ stored_at l.m l.n l.print l.initial.prints k;
      others : (k : ℕ) → l.i ≤ k → get_or l.prints k empty ≡ get_or l.initial.prints k empty;
    }
