-- `report_core::turn` meets its contract: the notes of a scan, and their lines behind those before them.
use Rattle.std.proofs.Common.{sym, ◌∙◌, drop, arith}
use Rattle.report_core.proofs.Turning.{noted-are, noted_small, never-full, turn-limit, turn-total, turns}
use Rattle.report_core.proofs.turn.Goals as goal

pub returns-in_default : goal.returns-in_default
returns-in_default c =
    let s = c.scan-scan in
    let noted = noted-are _ _ _ _ c.args.out.now _ _ _ _ c.requires c.share-cap.ensures s.ensures s.auto.notes _ in
    absurd
    (never-full _ _ _ _ c.args.out.now _ _ _ _ c.requires c.share-cap.ensures s.ensures s.auto.notes _ noted
    (sym c.in_default.is ∙ c.put_notes.ensures.value))

pub overflow_add-result : goal.overflow_add-result
overflow_add-result c =
    let s = c.scan-scan in
    let limit = turn-limit _ _ _ _ c.args.out.now _ _ _ _ c.requires c.share-cap.ensures s.ensures s.auto.notes in
    let total = turn-total _ _ _ _ c.args.out.now _ _ _ _ c.requires c.share-cap.ensures s.ensures s.auto.notes in
    omega (arith, limit, total)

pub returns : goal.returns
returns c =
    let s = c.scan-scan in
    let small = noted_small _ _ _ _ c.args.out.now _ _ _ _ c.requires c.share-cap.ensures s.ensures s.auto.notes (drop c.share-cap.result c.args.notes.now) (λ i. omega (arith, c.slice_known-3-1.given i)) in
    let noted = noted-are _ _ _ _ c.args.out.now _ _ _ _ c.requires c.share-cap.ensures s.ensures s.auto.notes _ in
    turns _ _ _ _ c.args.out.now _ _ _ _ c.requires c.share-cap.ensures s.ensures s.auto.notes small _ _ _ noted
    (sym c.in-Some.is ∙ c.put_notes.ensures.value) c.put_notes.ensures.buf_after
