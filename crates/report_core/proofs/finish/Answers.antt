-- `report_core::finish` meets its contract: one line, or the refusal's and the last behind it, and the buffer as it was where there is no room.
use Rattle.std.proofs.Common.{◌≡◌, ℕ, sym, ◌∙◌, ap, arith, rules}
use Rattle.report_lines.specs.Lines.{line_x}
use Rattle.refusal.specs.Number.{number}
use Rattle.refusal.proofs.Distinct.{refused-some}
use Rattle.report_core.proofs.Putting.{placed-next, last-full, last_one, last-two, last-accepted, last-refused}
use Rattle.report_core.proofs.finish.Goals as goal

pub returns-then-out-lt-LAST_ROOM-clause-value : goal.returns-then-out-lt-LAST_ROOM-clause-value
returns-then-out-lt-LAST_ROOM-clause-value c = (last-full _ _ (omega arith)).0

pub returns-then-out-lt-LAST_ROOM-clause-out_after : goal.returns-then-out-lt-LAST_ROOM-clause-out_after
returns-then-out-lt-LAST_ROOM-clause-out_after c = (last-full _ _ (omega arith)).1

pub returns-in_default-clause-value : goal.returns-in_default-clause-value
returns-in_default-clause-value c =
    let e = c.put_end.ensures in
    rw (ap number c.in_default.is, last-accepted c.args.t c.args.total) (last_one _ (omega arith) _ _ _ e.value e.buf_after).0

pub returns-in_default-clause-out_after : goal.returns-in_default-clause-out_after
returns-in_default-clause-out_after c =
    let e = c.put_end.ensures in
    rw (ap number c.in_default.is, last-accepted c.args.t c.args.total) (last_one _ (omega arith) _ _ _ e.value e.buf_after).1

pub returns-in_err-next-clause-value : goal.returns-in_err-next-clause-value
returns-in_err-next-clause-value c =
    let fits = placed-next c.args.out.now 0 (line_x c.number.result) (omega arith) in
    let z : ◌≡◌ {A = ℕ} 0 1 = cc (fits, c.in_err-next.ensures.value) in
    absurd (omega arith)

pub returns-in_err-next-clause-out_after : goal.returns-in_err-next-clause-out_after
returns-in_err-next-clause-out_after c =
    let fits = placed-next c.args.out.now 0 (line_x c.number.result) (omega arith) in
    let z : ◌≡◌ {A = ℕ} 0 1 = cc (fits, c.in_err-next.ensures.value) in
    absurd (omega arith)

pub returns-clause-value : goal.returns-clause-value
returns-clause-value c =
    let e = c.put_end-2.ensures in
    let r = c.in_ok-next.ensures in
    let told = ap number c.in-Err.is ∙ sym c.number.ensures in
    rw (told, last-refused c.number.result c.args.t c.args.total (λ z. refused-some c.in-Err.is (told ∙ z)))
    (last-two _ (omega arith) _ _ _ _ _ _ (search rules) r.value r.buf_after c.put_refusal.auto.buf e.value e.buf_after).0

pub returns-clause-out_after : goal.returns-clause-out_after
returns-clause-out_after c =
    let e = c.put_end-2.ensures in
    let r = c.in_ok-next.ensures in
    let told = ap number c.in-Err.is ∙ sym c.number.ensures in
    rw (told, last-refused c.number.result c.args.t c.args.total (λ z. refused-some c.in-Err.is (told ∙ z)))
    (last-two _ (omega arith) _ _ _ _ _ _ (search rules) r.value r.buf_after c.put_refusal.auto.buf e.value e.buf_after).1
