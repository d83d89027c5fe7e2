-- `in_place::stroke` meets its contract: a byte that is refused leaves the watch as it was.
use Prim.Native.Nat.{ℕ}
use mathlib.Core.Path.{◌≡◌, refl, ◌∙◌}
use borrow.Author.Tests.{ne_eqb}
use Rattle.std.proofs.Common.{Err}
use Rattle.refusal.specs.declared.Refusal.{Refusal}
use Rattle.refusal.specs.Number.{refusal_number}
use Rattle.refusal.proofs.Distinct.{refused-some}
use Rattle.matcher.specs.declared.Matcher.{Matcher}
use Rattle.matcher.specs.Stroke.{stroke_refusal, after_stroke}
use Rattle.in_place.proofs.stroke.Goals as goal

after-refused : (r : Refusal) (w : Matcher) (b : ℕ) → refusal_number r ≡ stroke_refusal w → w ≡ after_stroke w b
unfolding after_stroke
after-refused r w b e = rw (ne_eqb (stroke_refusal w) 0 (λ z. refused-some {A = ℕ} {v = Err r} refl (e ∙ z)), after_stroke)

pub returns-in_err-stroke-clause-matcher : goal.returns-in_err-stroke-clause-matcher
returns-in_err-stroke-clause-matcher c = after-refused c.in_err-stroke.field-0.0 c.args.matcher.now c.args.byte c.in_err-stroke.ensures.verdict
