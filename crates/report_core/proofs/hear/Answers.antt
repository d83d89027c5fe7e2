-- `report_core::hear` meets its contract: each turn adds to the buffer's front what the bytes that it takes bring.
use Rattle.std.proofs.Common.{refl, sym, ◌∙◌, arith}
use Rattle.report_core.proofs.Feeding.{along-begin, on, refused, full, used-up, err-some, err-none}
use Rattle.report_core.proofs.hear.Goals as goal

pub loop-fed-init : goal.loop-fed-init
loop-fed-init c = (along-begin _ _ _ c.requires, refl)

pub returns-then-out-fed-lt-ROOM : goal.returns-then-out-fed-lt-ROOM
returns-then-out-fed-lt-ROOM c =
    let i = c.loop-fed.invariant in
    full _ _ _ _ _ _ _ i.0 _ i.1 c.loop-fed-test.true (omega (arith, i.0.within, c.if-out-fed-lt-ROOM.true))

pub returns-then-is_err : goal.returns-then-is_err
returns-then-is_err c =
    let some = err-some _ (sym c.is_err.ensures.value ∙ c.if-is_err.true) in
    refused _ _ _ _ _ _ _ c.loop-fed.invariant.0 _ _ c.turn-fed.ensures some

pub loop-fed-preserved : goal.loop-fed-preserved
loop-fed-preserved c =
    let none = err-none _ (sym c.is_err.ensures.value ∙ c.if-is_err.false) in
    (on _ _ _ _ _ _ _ c.loop-fed.invariant.0 _ _ c.turn-fed.ensures c.turn-fed.auto.out none, none)

pub returns : goal.returns
returns c = let i = c.loop-fed.invariant in used-up _ _ _ _ _ _ _ i.0 _ i.1 c.loop-fed-test.false
