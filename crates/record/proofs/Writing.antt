-- What a writer's tests decide: of the verdict's number, the bytes used and the buffer.
-- Assumes nothing.
use Prim.Native.Nat.{ℕ, ◌≤◌, ◌<◌}
use mathlib.Core.Path.{◌≡◌, refl}
use mathlib.Core.List.{List}
use native.Mathlib.Nat.{zero-add}
use native.Mathlib.Omega.{arith}
use lib.Dec.{eqb}
use lib.ListN.{length}
use borrow.Author.Tests.{eqb-true, lt-ltb, le-ltb}
use Rattle.fields.specs.Fields.{pasted}
use Rattle.lists.proofs.Cases.{by-test}
use Rattle.record.specs.Calls.{put_refusal, put_used, put_buffer}
use Rattle.record.proofs.Accepted.{put-passed}

module _ (judged : ℕ) (bytes entry : List ℕ) where
  pub put-no-room :
      {n used : ℕ}
      → judged ≡ 0
      → length entry < length bytes
      → n ≡ 7
      → used ≡ 0
      → (n ≡ put_refusal judged bytes entry) × ((used ≡ put_used judged bytes entry) × (entry ≡ put_buffer judged bytes entry))
  put-no-room e h en eu = rw (e, lt-ltb (length entry) (length bytes) h) (en, (eu, refl))

  pub put_whole :
      (used : ℕ) (exit : List ℕ)
      → judged ≡ 0
      → length bytes ≤ length entry
      → used ≡ length bytes
      → exit ≡ pasted entry 0 bytes
      → (0 ≡ put_refusal judged bytes entry) × ((used ≡ put_used judged bytes entry) × (exit ≡ put_buffer judged bytes entry))
  unfolding pasted
  put_whole used exit e h u x = rw (e, le-ltb (length entry) (length bytes) h) (refl, (u, rw zero-add at x))

  -- a writer uses no more than it is lent
  pub used-within : put_used judged bytes entry ≤ length entry
  used-within =
      by-test (eqb (put_refusal judged bytes entry) 0)
      (λ e. rw e (put-passed judged bytes entry (eqb-true _ _ e)).1)
      (λ e. rw e (omega arith))
