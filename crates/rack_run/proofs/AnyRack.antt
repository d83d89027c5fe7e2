-- Any rack handed in: its reports' names rise, one for each card, with their sum and each card's ceiling; and one that fits stays so.
-- Assumes nothing.
use Prim.Native.Nat.{ℕ, zero, suc, ◌≤◌, ◌<◌}
use mathlib.Core.Path.{◌≡◌, refl, sym, ◌∙◌, ap}
use mathlib.Core.Bool.{true}
use mathlib.Core.List.{List, [], ◌∷◌, map}
use native.Mathlib.Nat.{not-suc-le-zero}
use native.Mathlib.Omega.{arith}
use lib.Dec.{eqb}
use lib.ListN.{length, get_or, take, length-map, get_or-append}
use lib.Seq.{take-append_seam}
use borrow.Author.Tests.{eqb-true}
use Rattle.ladder.specs.Prefix.{levels}
use Rattle.lists.specs.Lists.{Rising}
use Rattle.lists.proofs.Choices.{chosen-rising}
use Rattle.lists.proofs.Cases.{by-test}
use Rattle.matcher.proofs.Ceiling.{ceiling}
use Rattle.rack.specs.declared.Rack.{Rack}
use Rattle.rack_report.specs.declared.Report.{Report}
use Rattle.rack_report.specs.declared.Reports.{Reports}
use Rattle.rack.specs.Rack.{
  name_count,
  is_in,
  place_named,
  names_in,
  watch_at,
  rack_fits,
  rack_stroke_refusal,
  report_of,
  reports_of,
  comparisons_of,
  no_report,
  no_reports,
  filled,
  handed_out,
  rack_reports,
  cards_in,
}
use Rattle.rack_run.specs.Calls.{Call, rack_after}
use Rattle.rack_run.specs.AnyRack.{Typed}
use Rattle.rack_run.proofs.Accepted.{strikes}
use Rattle.rack_run.proofs.Counts.{in_count}
use Rattle.rack_run.proofs.Kept.{fits_after}

get_d-mapped : {A B : Type 0} (f : A → B) (l : List A) (i : ℕ) (a : A) (b : B) → i < length l → get_or (map f l) i b ≡ f (get_or l i a)
get_d-mapped f [] i a b h = absurd (not-suc-le-zero h)
get_d-mapped f (x ∷ l) zero a b h = refl
get_d-mapped f (x ∷ l) (suc i) a b h = get_d-mapped f l i a b (omega arith)

module _ (r : Rack) (byte : ℕ) where
  names_of : (names : List ℕ) → map (λ (x : Report). x.name) (map (report_of r byte) names) ≡ names
  names_of [] = refl
  names_of (name ∷ names) = ap (λ (l : List ℕ). name ∷ l) (names_of names)

  -- the reports' names are those that are in
  pub reported : map (λ (x : Report). x.name) (reports_of r byte) ≡ names_in r.places
  unfolding reports_of
  reported = names_of (names_in r.places)

  pub any-rising : Rising (map (λ (x : Report). x.name) (reports_of r byte))
  any-rising = rw reported (chosen-rising (λ name. is_in name r.places) 0 name_count)

  reports-many : length (reports_of r byte) ≡ length (names_in r.places)
  unfolding reports_of
  reports-many = length-map (names_in r.places) (report_of r byte)

  pub any-many : Typed r → rack_fits r ≡ true → length (reports_of r byte) ≡ cards_in r.places
  any-many typed fits = reports-many ∙ in_count r fits typed

  -- what is handed out, where the byte is taken and where it is refused
  reports-case :
      (P : Reports → Type 0)
      → (rack_stroke_refusal r ≡ 0 → P (handed_out (reports_of r byte)))
      → P no_reports
      → P (rack_reports r byte)
  unfolding rack_reports
  reports-case P taken refused =
      by-test (eqb (rack_stroke_refusal r) 0) (λ e. rw (e, rack_reports) (taken (eqb-true _ _ e))) (λ e. rw (e, rack_reports) refused)

  pub reports-taken : rack_stroke_refusal r ≡ 0 → rack_reports r byte ≡ handed_out (reports_of r byte)
  unfolding rack_reports
  reports-taken e = rw e

  pub any-handed : Typed r → rack_stroke_refusal r ≡ 0 → (rack_reports r byte).many ≡ cards_in r.places
  any-handed typed e = ap (λ (x : Reports). x.many) (reports-taken e) ∙ any-many typed (strikes r e).fits

  filled-take : (l : List Report) → take (length l) (filled l) ≡ l
  unfolding filled
  filled-take l = take-append_seam l _

  filled_at : (l : List Report) (i : ℕ) → i < length l → get_or (filled l) i no_report ≡ get_or l i no_report
  unfolding filled
  filled_at l i h = get_or-append l _ no_report i h

  -- Also where the byte is refused.
  pub any-total : (rack_reports r byte).comparisons ≡ comparisons_of (take (rack_reports r byte).many (rack_reports r byte).reports)
  unfolding comparisons_of
  any-total =
      reports-case (λ (x : Reports). x.comparisons ≡ comparisons_of (take x.many x.reports))
      (λ e. sym (ap comparisons_of (filled-take (reports_of r byte))))
      refl

  abbrev Within : Report → Type 0
  Within x = x.answer.comparisons ≤ suc (levels (place_named x.name r.places).signature.length)

  report-at :
      (i : ℕ)
      → i < length (reports_of r byte)
      → get_or (reports_of r byte) i no_report ≡ report_of r byte (get_or (names_in r.places) i 0)
  unfolding reports_of
  report-at i l = get_d-mapped (report_of r byte) (names_in r.places) i 0 no_report (omega (arith, reports-many))

  -- "each name giving at most 1 + the number of its stages"
  pub any-ceiling :
      (i : ℕ)
      → i < (rack_reports r byte).many
      → (get_or (rack_reports r byte).reports i no_report).answer.comparisons
      ≤ suc (levels (place_named (get_or (rack_reports r byte).reports i no_report).name r.places).signature.length)
  any-ceiling i =
      reports-case (λ (x : Reports). i < x.many → Within (get_or x.reports i no_report))
      (λ e l.
      rw (filled_at (reports_of r byte) i l, report-at i l)
      (ceiling (watch_at r.now (place_named (get_or (names_in r.places) i 0) r.places)) byte))
      (λ l. absurd (not-suc-le-zero l))

pub any-fits : (r : Rack) → rack_fits r ≡ true → Typed r → (call : Call) → rack_fits (rack_after r call) ≡ true
any-fits = fits_after
