-- A rack beside what the list of its calls says: what holds of both, and what follows for the next call (`Says`).
-- Assumes nothing.
use Prim.Native.Nat.{ℕ, ◌<◌}
use mathlib.Core.Path.{◌≡◌, refl, sym, ◌∙◌, ap}
use mathlib.Core.Bool.{Bool, true, cond, true≢false}
use mathlib.Core.List.{List, [], ◌∷◌, map}
use mathlib.Core.Option.{Option, none, some}
use lib.Dec.{eqb, ltb}
use native.Mathlib.Omega.{arith}
use lib.ListN.{length, take}
use borrow.Author.Tests.{eqb-true}
use Rattle.fingerprint.specs.declared.Key.{Key}
use Rattle.lists.specs.Lists.{chosen}
use Rattle.lists.proofs.Cases.{by-test}
use Rattle.rack.specs.declared.Rack.{Rack}
use Rattle.rack_report.specs.declared.Report.{Report}
use Rattle.rack_report.specs.declared.Reports.{Reports}
use Rattle.rack.specs.Rack.{name_count, rack_places, rack_fits, is_in, names_in, rack_stroke_refusal, report_of, reports_of, handed_out, rack_reports}
use Rattle.rack_run.specs.Calls.{Call, put-in, take_out, stroke, Standing, refusal_of, bytes_taken, under}
use Rattle.rack_run.specs.Ledger.{Tenant, Ledger, given, names_given, refusal_due, answer_due, reports_due, handed_out_due}
use Rattle.rack_run.specs.Statement.{under_due, Own, Says}
use Rattle.rack_run.specs.AnyRack.{Typed}
use Rattle.rack_run.proofs.Counts.{not_full}
use Rattle.rack_run.proofs.Reports.{same-reports, under-chosen, handed-back}
use Rattle.rack_run.proofs.Tenants.{Tracks, own-answered}

pub record Follows (key : Key) (s : Standing) (l : Ledger) : Type 0 where
  pub one_key : s.rack.key ≡ key
  pub fits : rack_fits s.rack ≡ true
  pub typed : Typed s.rack
  pub bytes : bytes_taken s.history ≡ l.bytes
  pub count : s.rack.now.at ≡ length l.bytes
  pub names : (name : ℕ) → is_in name s.rack.places ≡ given (l.tenant name)
  pub tenants : (name : ℕ) (x : Tenant) → l.tenant name ≡ some x → Tracks s.rack l.bytes name x × Own name x s

-- a name that is in says what is due, under itself one answer
due-under : (o : Option Tenant) (bytes : List ℕ) (byte : ℕ) → cond (given o) (answer_due o bytes byte ∷ []) [] ≡ under_due o bytes byte
due-under none bytes byte = refl
due-under (some x) bytes byte = refl

module _ (key : Key) (s : Standing) (l : Ledger) (q : Follows key s l) where
  abbrev r : Rack
  r = s.rack

  abbrev due : ℕ → ℕ → Report
  due byte name = record { name = name; answer = answer_due (l.tenant name) l.bytes byte }

  same_names : names_in r.places ≡ names_given l
  unfolding names_given
  same_names = ap (λ (test : ℕ → Bool). chosen test 0 name_count) (λ i name. q.names name i)

  pub verdicts : (call : Call) → refusal_of r call ≡ refusal_due key l call
  verdicts (put-in name card) =
      rw (q.fits, q.one_key, q.names name, not_full r q.fits q.typed, same_names)
      (by-test (ltb (length (names_given l)) rack_places) (λ e. rw e) (λ e. rw e))
  verdicts (take_out name) = rw (q.fits, q.names name)
  verdicts (stroke byte) = rw (q.fits, q.count)

  report-due : (byte : ℕ) → rack_stroke_refusal r ≡ 0 → (name : ℕ) → is_in name r.places ≡ true → report_of r byte name ≡ due byte name
  report-due byte taken name inside = go (l.tenant name) refl
    where
      go : (o : Option Tenant) → l.tenant name ≡ o → report_of r byte name ≡ due byte name
      go none e = absurd (true≢false (sym inside ∙ q.names name ∙ ap given e))
      go (some x) e =
          rw e (λ i. record { name = name; answer = own-answered r l.bytes name x (q.tenants name x e).0 taken byte i })

  reports-due : (byte : ℕ) → rack_stroke_refusal r ≡ 0 → reports_of r byte ≡ reports_due l byte
  unfolding reports_of
  reports-due byte taken =
      same-reports (λ name. is_in name r.places) (report_of r byte) (due byte) 0 name_count (report-due byte taken)
      ∙ ap (map (due byte)) same_names

  handed : (byte : ℕ) → rack_stroke_refusal r ≡ 0 → rack_reports r byte ≡ handed_out (reports_due l byte)
  unfolding rack_reports
  handed byte taken = rw taken (ap handed_out (reports-due byte taken))

  pub handed-due : (byte : ℕ) → rack_reports r byte ≡ handed_out_due key l byte
  unfolding rack_reports
  handed-due byte =
      by-test (eqb (refusal_due key l (stroke byte)) 0)
      (λ e. rw e (handed byte (verdicts (stroke byte) ∙ eqb-true _ _ e)))
      (λ e. rw (verdicts (stroke byte), e))

  pub each-due :
      (byte name : ℕ)
      → name < name_count
      → refusal_due key l (stroke byte) ≡ 0
      → under name (take (rack_reports r byte).many (rack_reports r byte).reports) ≡ under_due (l.tenant name) l.bytes byte
  unfolding names_given
  each-due byte name b e =
      ap (λ (a : Reports). under name (take a.many a.reports)) (handed byte (verdicts (stroke byte) ∙ e))
      ∙ ap (under name) (handed-back (reports_due l byte))
      ∙ under-chosen (λ n. given (l.tenant n)) (λ n. answer_due (l.tenant n) l.bytes byte) name 0 name_count (omega arith) (omega arith)
      ∙ due-under (l.tenant name) l.bytes byte

  pub says : Says key s l
  says =
      record {
        fits = q.fits;
        bytes = q.bytes;
        refusals = λ call _. verdicts call;
        reports = λ byte _. handed-due byte;
        each = λ byte name _. each-due byte name;
        own = λ name _ x e. (q.tenants name x e).1;
      }
