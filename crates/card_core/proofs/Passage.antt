-- The builder led through a whole passage: every byte is taken, and then the card is given, which is the passage's own.
-- Assumes nothing.
use Prim.Native.Nat.{ℕ, ◌+◌, ◌<◌, min}
use mathlib.Core.Path.{◌≡◌, refl, sym, ◌∙◌, ap, subst₂}
use mathlib.Core.List.{List, []}
use native.Mathlib.Nat.{min-eq_left, min-eq_right}
use native.Mathlib.Decide.{dec_le}
use native.Mathlib.Numerals.{add-one}
use native.Mathlib.Omega.{arith}
use lib.ListN.{length, get_or, take}
use lib.Seq.{take-suc, length-take-le}
use borrow.Author.Tests.{lt-ltb, ne_eqb}
use Rattle.fingerprint.specs.declared.Key.{Key}
use Rattle.signature.specs.declared.Builder.{Builder}
use Rattle.signature.specs.Signature.{max_length, signature_of}
use Rattle.signature.specs.Calls.{begin_refusal, begun, push_refusal, after_push, finish_refusal, finished}
use Rattle.signature.specs.Made.{Making, begins, takes}
use Rattle.card_core.specs.Card.{overlong, make_refusal, made_signature}
use Rattle.made_from.proofs.Calls.{length-limits, begin-tells, push-accepted, finish-accepted}
use Rattle.made_from.proofs.Made.{making-state, made-card}

-- the length that the builder is told stands for every length above the longest
told-refusal : (n : ℕ) (key : Key) → begin_refusal (min n overlong) key ≡ begin_refusal n key
told-refusal n key =
    elim (dec_le n overlong) [
      | yes l ↦ rw (min-eq_left l)
      | no l ↦
          rw (min-eq_right {n = overlong} {m = n} (omega arith), ne_eqb n 0 (omega arith), lt-ltb max_length n (omega arith))
    ]

accepted-length : (n : ℕ) (key : Key) → begin_refusal n key ≡ 0 → min n overlong ≡ n
accepted-length n key e = omega (arith, length-limits n (begin-tells n key e).0)

-- What beginning with that length gives.
pub record Began (n : ℕ) (key : Key) (b : Builder) : Type 0 where
  pub accepted : begin_refusal n key ≡ 0
  pub same_key : b.key ≡ key
  pub making : Making n b.key [] b

module _ (n : ℕ) (key : Key) (number m : ℕ) (length-told : m ≡ min n overlong) (number-told : number ≡ begin_refusal m key) where
  pub begin-number : number ≡ begin_refusal n key
  begin-number = number-told ∙ ap (λ k. begin_refusal k key) length-told ∙ told-refusal n key

  pub began : (b : Builder) → b ≡ begun m key → number ≡ 0 → Began n key b
  unfolding begun
  began b given accepted =
      let ok = sym begin-number ∙ accepted in
      let same : b ≡ begun n key = given ∙ ap (λ k. begun k key) (length-told ∙ accepted-length n key ok) in
      let key-same : b.key ≡ key = rw (same, ok, begun) in
      record {
        accepted = ok;
        same_key = key-same;
        making = subst₂ (λ k c. Making n k [] c) (sym key-same) (sym same) (begins ok);
      }

module _ (key : Key) (p : List ℕ) where
  -- one byte more is accepted, and taken
  pub accepted : (i : ℕ) (b : Builder) → Making (length p) key (take i p) b → i < length p → push_refusal b ≡ 0
  accepted i b d l =
      let s = making-state d in
      let size = length-take-le i p (omega arith) in
      push-accepted b s.fits (rw s.state (omega arith))

  pub more :
      (i : ℕ) (b : Builder)
      → Making (length p) key (take i p) b
      → i < length p
      → get_or p i 0 < 256
      → Making (length p) key (take (i + 1) p) (after_push b (get_or p i 0))
  more i b d l h = rw (add-one, take-suc p i 0 l) (takes (get_or p i 0) h d (accepted i b d l))

  pub given : (b : Builder) → Making (length p) key p b → (finish_refusal b ≡ 0) × (finished b ≡ signature_of key p)
  given b d =
      let s = making-state d in
      let e = finish-accepted b s.fits (rw s.state (omega arith)) in
      (e, (made-card (record { builder = b; making = d; accepted = e; given = refl })).state)

-- the passage's own card
pub made-own : (key : Key) (p : List ℕ) → make_refusal key p ≡ 0 → made_signature key p ≡ signature_of key p
unfolding made_signature
made-own key p e = rw e
