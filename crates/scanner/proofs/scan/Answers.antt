-- `scanner::scan` meets its contract: where nothing is taken, and where a run is made.
use Rattle.std.proofs.Common.{sym, ◌∙◌}
use Rattle.scanner.proofs.Running.{scan-none, scan-small, scan-fits, scan-misfit}
use Rattle.scanner.proofs.scan.Goals as goal

pub returns-then-not-fits : goal.returns-then-not-fits
returns-then-not-fits c =
    let q = scan-misfit c.args.matcher c.args.input.now c.args.from c.args.notes.now (sym c.fits.ensures ∙ c.if-not-fits.true) in
    rw c.untaken.ensures (record { matcher = q.matcher; noted = q.noted; notes = q.notes; comparisons = q.comparisons; next = q.next; verdict = q.verdict })

pub returns-then-notes-lt-NOTE_ROOM : goal.returns-then-notes-lt-NOTE_ROOM
returns-then-notes-lt-NOTE_ROOM c =
    let fits = sym c.fits.ensures ∙ c.if-not-fits.false in
    let q = scan-small c.args.matcher c.args.input.now c.args.from c.args.notes.now fits c.if-notes-lt-NOTE_ROOM.true in
    rw c.untaken-then-notes-lt-NOTE_ROOM.ensures (record { matcher = q.matcher; noted = q.noted; notes = q.notes; comparisons = q.comparisons; next = q.next; verdict = q.verdict })

pub returns-then-input-from : goal.returns-then-input-from
returns-then-input-from c =
    let fits = sym c.fits.ensures ∙ c.if-not-fits.false in
    let q = scan-none c.args.matcher c.args.input.now c.args.from c.args.notes.now fits c.if-notes-lt-NOTE_ROOM.false c.if-input-from.true in
    rw c.untaken-then-input-from.ensures (record { matcher = q.matcher; noted = q.noted; notes = q.notes; comparisons = q.comparisons; next = q.next; verdict = q.verdict })

pub returns : goal.returns
returns c =
    let fits = sym c.fits.ensures ∙ c.if-not-fits.false in
    let q = scan-fits c.args.matcher c.args.input.now c.args.from c.args.notes.now fits c.if-notes-lt-NOTE_ROOM.false _ _ c.run.ensures in
    record { matcher = q.matcher; noted = q.noted; notes = q.notes; comparisons = q.comparisons; next = q.next; verdict = q.verdict }
