-- `refusal_line::say` meets its contract: what is written is the line, which lies within the buffer.
use Prim.Native.Nat.{ℕ, ◌+◌, ◌≤◌}
use mathlib.Core.Path.{◌≡◌, sym, ◌∙◌}
use mathlib.Core.List.{List}
use native.Mathlib.Nat.{lt_of_not-le}
use native.Mathlib.Decide.{dec_le}
use native.Mathlib.Omega.{arith}
use lib.ListN.{length}
use lib.Seq.{length-take-le}
use borrow.Author.Tests.{le-leb, lt-leb}
use Rattle.std.proofs.Common.{Some}
use Rattle.std.proofs.lemmas.Result.{MatchResult-weaker}
use Rattle.report_lines.specs.Lines.{line_x, room, placed, written}
use Rattle.report_lines.proofs.Room.{next-within}
use Rattle.refusal_line.proofs.say.Goals as goal

-- a place that is handed back is that behind the lines
next-behind : (entry : List ℕ) (at : ℕ) (lines : List ℕ) (next : ℕ) → Some next ≡ placed entry at lines → next ≡ at + length lines
unfolding placed
next-behind entry at lines next p =
    elim (dec_le (at + room) (length entry)) [
      | yes r ↦ let p' = rw (le-leb (at + room) (length entry) r) at p in cc
      | no r ↦
          let p' = rw (lt-leb (at + room) (length entry) (lt_of_not-le r)) at p in
          absurd (let z : ◌≡◌ {A = ℕ} 0 1 = cc in omega arith)
    ]

-- the place behind the lines lies within the buffer that holds them
ends :
    (entry exit : List ℕ) (at : ℕ) (lines : List ℕ) (next : ℕ)
    → Some next ≡ placed entry at lines
    → exit ≡ written entry at lines
    → length exit ≡ length entry
    → next ≤ length exit
ends entry exit at lines next p w k = omega (arith, k, next-within entry exit at lines next p w k)

pub slice_bounds-line-end : goal.slice_bounds-line-end
slice_bounds-line-end g c =
    let u = c.put_refusal in
    omega (arith, ends _ _ _ _ _ c.in-Some.ensures.value c.in-Some.ensures.buf_after u.auto.buf)

pub slice_bounds-write-end : goal.slice_bounds-write-end
slice_bounds-write-end g c =
    let u = c.put_refusal in
    let within = ends _ _ _ _ _ c.in-Some.ensures.value c.in-Some.ensures.buf_after u.auto.buf in
    sym (length-take-le _ _ (omega (arith, within, u.auto.buf)))

pub returns : goal.returns
returns g c =
    let u = c.put_refusal in
    let end : c.in-Some.end ≡ length (line_x c.args.number) = omega (arith, next-behind _ _ _ _ c.in-Some.ensures.value) in
    let within = ends _ _ _ _ _ c.in-Some.ensures.value c.in-Some.ensures.buf_after u.auto.buf in
    let long = length-take-le c.in-Some.end u.new.buf within in
    MatchResult-weaker c.write.result c.write.ensures (λ _ e. e ∙ long ∙ end) (λ _ e. e)
