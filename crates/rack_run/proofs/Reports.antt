-- One report for each name that is in: what the reports say under a name, and what is handed out.
-- Assumes nothing.
use Prim.Native.Nat.{ℕ, zero, suc, ◌+◌, ◌≤◌, ◌<◌}
use mathlib.Core.Path.{◌≡◌, refl}
use mathlib.Core.Bool.{Bool, true, cond}
use mathlib.Core.List.{List, [], ◌∷◌, map}
use native.Mathlib.Decide.{ℕ_discrete}
use native.Mathlib.Omega.{arith}
use lib.ListN.{take}
use lib.Seq.{take-append_seam}
use borrow.Author.Tests.{eq-eqb, ne_eqb}
use Rattle.lists.specs.Lists.{chosen}
use Rattle.lists.proofs.Cases.{by-test}
use Rattle.walk.specs.declared.Answer.{Answer}
use Rattle.rack_report.specs.declared.Report.{Report}
use Rattle.rack.specs.Rack.{handed_out, filled}
use Rattle.rack_run.specs.Calls.{under}

-- Reports of the numbers that a test chooses are the same where they are so for each number that passes.
pub same-reports :
    (test : ℕ → Bool) (f g : ℕ → Report) (from n : ℕ)
    → ((i : ℕ) → test i ≡ true → f i ≡ g i)
    → map f (chosen test from n) ≡ map g (chosen test from n)
unfolding chosen
same-reports test f g from zero h = refl
same-reports test f g from (suc n) h =
    let more = same-reports test f g (suc from) n h in
    by-test (test from) (λ e. rw (e, h from e, more)) (λ e. rw e more)

-- The reports of the numbers that a test chooses, under a name: none for a name below them, one where the name is chosen.
module _ (test : ℕ → Bool) (answer : ℕ → Answer) (name : ℕ) where
  abbrev report : ℕ → Report
  report i = record { name = i; answer = answer i }

  under-below : (from n : ℕ) → name < from → under name (map report (chosen test from n)) ≡ []
  unfolding chosen under
  under-below from zero l = refl
  under-below from (suc n) l =
      let more = under-below (suc from) n (omega arith) in
      by-test (test from) (λ e. rw (e, ne_eqb from name (omega arith)) more) (λ e. rw e more)

  pub under-chosen :
      (from n : ℕ) → from ≤ name → name < from + n
      → under name (map report (chosen test from n)) ≡ cond (test name) (answer name ∷ []) []
  unfolding chosen under
  under-chosen from zero l b = absurd (omega arith)
  under-chosen from (suc n) l b =
      elim (ℕ_discrete from name) [
        | yes q ↦
            let more = under-below (suc name) n (omega arith) in
            rw q (by-test (test name) (λ e. rw (e, eq-eqb name name refl, more)) (λ e. rw e more))
        | no q ↦
            let more = under-chosen (suc from) n (omega arith) (omega arith) in
            by-test (test from) (λ e. rw (e, ne_eqb from name q) more) (λ e. rw e more)
      ]

-- As many of the reports handed out as there are: all of them, and no filling.
pub handed-back : (reports : List Report) → take (handed_out reports).many (handed_out reports).reports ≡ reports
unfolding filled
handed-back reports = take-append_seam reports _
