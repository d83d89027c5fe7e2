-- What the tests of a record's head decide.
-- Assumes nothing.
use Prim.Native.Nat.{ℕ, ◌+◌, ◌≤◌, ◌<◌}
use mathlib.Core.Path.{◌≡◌, sym}
use mathlib.Core.List.{List}
use native.Mathlib.Omega.{arith}
use lib.ListN.{length}
use Rattle.lists.proofs.Tests.{tests}
use Rattle.record.specs.Layout.{length_width, length_field, kind_of}
use Rattle.record.specs.Calls.{head_refusal}

-- one after another
module _ (kind least : ℕ) (s : List ℕ) where
  pub under-four : length s < length_width → 8 ≡ head_refusal kind least s
  unfolding head_refusal
  under-four a = search tests

  pub too_short : length_width ≤ length s → length s < length_field s + length_width → 8 ≡ head_refusal kind least s
  unfolding head_refusal
  too_short a b = search tests

  module _ (a : length_width ≤ length s) (b : length_field s + length_width ≤ length s) where
    pub under-two : length_field s < 2 → 10 ≡ head_refusal kind least s
    unfolding head_refusal
    under-two d = search tests

    module _ (d : 2 ≤ length_field s) where
      pub other-kind : (kind_of s ≡ kind → ⊥) → 9 ≡ head_refusal kind least s
      unfolding head_refusal
      other-kind e = search tests

      pub too_small : kind_of s ≡ kind → length_field s < least → 10 ≡ head_refusal kind least s
      unfolding head_refusal
      too_small e f = search tests

      pub good-head : kind_of s ≡ kind → least ≤ length_field s → 0 ≡ head_refusal kind least s
      unfolding head_refusal
      good-head e f = search tests

-- A head is accepted where its length field says no more than what follows it, whatever that is.
pub head-accepted :
    (kind n least : ℕ) (s : List ℕ)
    → kind_of s ≡ kind
    → length_field s ≡ n
    → n + length_width ≤ length s
    → 2 ≤ n
    → least ≤ n
    → head_refusal kind least s ≡ 0
head-accepted kind n least s k e room l m =
    sym (good-head kind least s (omega arith) (omega arith) (omega arith) k (omega arith))
