-- `record::check_head` meets its contract: its tests are the definition's, in their order.
use mathlib.Core.Path.{sym, ◌∙◌}
use native.Mathlib.Omega.{arith}
use Rattle.fields.proofs.Room.{is-missing, is-there}
use Rattle.record.specs.Layout.{length_width}
use Rattle.record.proofs.Head.{under-four, too_short, under-two, other-kind, too_small, good-head}
use Rattle.record.proofs.check_head.Goals as goal

pub returns-in_default : goal.returns-in_default
returns-in_default c =
    let a = c.args in
    let s = a.buf.now in
    under-four a.kind a.least s (is-missing s 0 length_width (sym c.in_default.is ∙ c.field_at.ensures.answer))

pub overflow_sub-buf : goal.overflow_sub-buf
overflow_sub-buf c =
    let a = c.args in
    let s = a.buf.now in
    let there = is-there s 0 length_width _ (sym c.in-Some.is ∙ c.field_at.ensures.answer) in
    omega arith

pub returns-then-buf-length : goal.returns-then-buf-length
returns-then-buf-length c =
    let a = c.args in
    let s = a.buf.now in
    let there = is-there s 0 length_width _ (sym c.in-Some.is ∙ c.field_at.ensures.answer) in
    too_short a.kind a.least s (omega arith) (omega arith)

pub returns-then-length-lt2 : goal.returns-then-length-lt2
returns-then-length-lt2 c =
    let a = c.args in
    let s = a.buf.now in
    let there = is-there s 0 length_width _ (sym c.in-Some.is ∙ c.field_at.ensures.answer) in
    under-two a.kind a.least s (omega arith) (omega arith) (omega arith)

pub returns-then-number_at-kind : goal.returns-then-number_at-kind
returns-then-number_at-kind c =
    let a = c.args in
    let s = a.buf.now in
    let there = is-there s 0 length_width _ (sym c.in-Some.is ∙ c.field_at.ensures.answer) in
    other-kind a.kind a.least s (omega arith) (omega arith) (omega arith) (λ e. c.if-number_at-kind.true (c.number_at.ensures.answer ∙ e))

pub returns-then-length-least : goal.returns-then-length-least
returns-then-length-least c =
    let a = c.args in
    let s = a.buf.now in
    let there = is-there s 0 length_width _ (sym c.in-Some.is ∙ c.field_at.ensures.answer) in
    let kind = sym c.number_at.ensures.answer ∙ c.if-number_at-kind.false in
    too_small a.kind a.least s (omega arith) (omega arith) (omega arith) kind (omega arith)

pub returns : goal.returns
returns c =
    let a = c.args in
    let s = a.buf.now in
    let there = is-there s 0 length_width _ (sym c.in-Some.is ∙ c.field_at.ensures.answer) in
    let kind = sym c.number_at.ensures.answer ∙ c.if-number_at-kind.false in
    good-head a.kind a.least s (omega arith) (omega arith) (omega arith) kind (omega arith)
