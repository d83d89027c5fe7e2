-- `chunk::track_of` meets its contract: the chunks passed are whole, and no tracks.
use mathlib.Core.Path.{sym}
use native.Mathlib.Omega.{arith}
use Rattle.midi_file.proofs.Chunks.{headless}
use Rattle.midi_file.proofs.Chunks.{passed_none, passed-all, passed-cut, passed-found, passed-more}
use Rattle.midi_file.proofs.chunk.track_of.Goals as goal

pub returns-then-not-is_header : goal.returns-then-not-is_header
returns-then-not-is_header c = sym (headless c.args.file.now (sym c.if-not-is_header.ensures))

pub loop-at-init : goal.loop-at-init
loop-at-init c =
    rw c.number_at-at.ensures (passed_none c.args.file.now (sym c.if-not-is_header.ensures))

pub returns-then-not-is_whole : goal.returns-then-not-is_whole
returns-then-not-is_whole c =
    sym (passed-cut c.args.file.now c.loop-at.at c.loop-at.invariant (omega arith) (sym c.if-not-is_whole.ensures))

pub returns-then-has_letters : goal.returns-then-has_letters
returns-then-has_letters c =
    let found = passed-found c.args.file.now c.loop-at.at c.loop-at.invariant (omega arith) (sym c.if-not-is_whole.ensures) (sym c.if-has_letters.ensures) in
    rw c.number_at-size.ensures (sym found)

pub loop-at-preserved : goal.loop-at-preserved
loop-at-preserved c =
    rw c.number_at-size.ensures
    (passed-more c.args.file.now c.loop-at.at c.loop-at.invariant (omega arith) (sym c.if-not-is_whole.ensures)
    (sym c.if-has_letters.ensures))

pub returns : goal.returns
returns c = sym (passed-all c.args.file.now c.loop-at.at c.loop-at.invariant (omega arith))
