-- "A refused call changes .. no byte of a buffer": what a refused writer leaves; and that a refusal has a number.
-- Assumes nothing.
use Prim.Native.Nat.{ℕ}
use mathlib.Core.Path.{◌≡◌, refl}
use mathlib.Core.List.{List}
use borrow.Author.Tests.{ne_eqb}
use Rattle.refusal.specs.declared.Refusal.{Refusal}
use Rattle.std.proofs.Common.{Err}
use Rattle.refusal.specs.Number.{refusal_number}
use Rattle.refusal.proofs.Distinct.{refused-some}
use Rattle.record.specs.Calls.{put_refusal, put_buffer}

pub refused-put : (judged : ℕ) (bytes entry : List ℕ) → (put_refusal judged bytes entry ≡ 0 → ⊥) → put_buffer judged bytes entry ≡ entry
refused-put judged bytes entry refused = rw (ne_eqb _ _ refused)

-- A refusal's number is not that of an acceptance.
pub refusal-given : (r : Refusal) → refusal_number r ≡ 0 → ⊥
refusal-given r e = refused-some {A = Unit {0}} {v = Err r} refl e
