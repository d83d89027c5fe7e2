-- `card::make_card` meets its contract: what is written is the record at the buffer's front.
use mathlib.Core.Path.{refl, sym, ◌∙◌, ap}
use native.Mathlib.Omega.{arith}
use lib.ListN.{take}
use Rattle.std.proofs.Common.{Err}
use Rattle.std.proofs.lemmas.List.{length-take-le}
use Rattle.std.proofs.lemmas.Result.{err_from_is_err_and}
use Rattle.descriptor.proofs.Written.{all-written}
use Rattle.card_core.proofs.Cards.{stands}
use Rattle.card.specs.Outcome as outcome
use Rattle.card.proofs.make_card.Goals as goal

pub returns-in-Err-clause-card : goal.returns-in-Err-clause-card
returns-in-Err-clause-card g c = outcome.refused c.in-Ok.read c.in-Err.refusal refl c.in-Ok.ensures.0 c.in-Err.ensures.verdict

pub slice_bounds-write-end : goal.slice_bounds-write-end
slice_bounds-write-end g c =
    let w = c.in-Ok-write_card.ensures in
    let card = stands c.args.key (take c.in-Ok.read c.fill.new.buf) c.args.out.now _ _ (sym w.verdict) w.used w.buffer in
    sym (length-take-le _ _ card.2)

pub shared_ref_as_front-write : goal.shared_ref_as_front-write
shared_ref_as_front-write g c =
    let w = c.in-Ok-write_card.ensures in
    let card = stands c.args.key (take c.in-Ok.read c.fill.new.buf) c.args.out.now _ _ (sym w.verdict) w.used w.buffer in
    let within = card.2 in
    omega (arith, within, c.write_card.auto.out, c.told-out)

pub returns-in-Ok-write-clause-card : goal.returns-in-Ok-write-clause-card
returns-in-Ok-write-clause-card g c =
    let w = c.in-Ok-write_card.ensures in
    let card = stands c.args.key (take c.in-Ok.read c.fill.new.buf) c.args.out.now _ _ (sym w.verdict) w.used w.buffer in
    let counted = all-written c.in-Ok-write.written c.write_card.new.out c.in-Ok-write_card.used card.2 c.in-Ok-write.ensures in
    outcome.written (record { read = c.in-Ok.read; written = c.in-Ok-write.written }) refl c.in-Ok.ensures.0 (sym w.verdict) (rw counted card.0)
    (counted ∙ card.1)
