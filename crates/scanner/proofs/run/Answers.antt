-- `scanner::run` meets its contract: the loop keeps the run going, with the notes of the bytes taken at the list's front.
use Rattle.std.proofs.Common.{◌+◌, ◌-◌, ◌≤◌, length, drop, length-drop, refl, sym, ◌∙◌, arith}
use lib.Seq.{take_all}
use Rattle.signature.specs.Signature.{max_length}
use Rattle.powers.specs.Powers.{Shifts}
use Rattle.matcher.proofs.Sound.{sound, card-of}
use Rattle.scanner.proofs.Running.{Running, run-begin, run_end, run-full, run-spent, run_skip, run_noted, run_silent}
use Rattle.scanner.proofs.run.Goals as goal
use Rattle.scanner.proofs.run.Goals.{After-saturating_sub-skipped, After-climb}

pub loop-ended-init : goal.loop-ended-init
loop-ended-init c =
    rw c.untaken-ended.ensures
    (record {
      going = run-begin c.args.matcher c.args.input.now c.args.from c.args.notes.now c.requires.0 c.requires.1;
      roomy = omega (arith, c.requires.2);
      accepted = refl;
      own = refl;
    })

pub quiet_until-until-requires : goal.quiet_until-until-requires
quiet_until-until-requires c =
    let card = card-of (sound c.args.matcher c.requires.0) in
    (card.long, card.short)

-- behind the bytes passed over
passed :
    (c : After-saturating_sub-skipped)
    → Running c.args.matcher c.args.input.now c.args.from c.args.notes.now
    (record { signature = c.loop-ended.ended.matcher.signature; now = c.skip-start.result; stages = c.loop-ended.ended.matcher.stages })
    (c.loop-ended.ended.next + c.saturating_sub-skipped.result) c.loop-ended.ended.noted
    (c.loop-ended.ended.comparisons + c.saturating_sub-skipped.result) c.loop-ended.notes
passed c =
    let q = c.loop-ended.invariant in
    let input = c.args.input.now in
    let next = c.loop-ended.ended.next in
    let rest = take_all (length input - next) (drop next input) (omega (arith, length-drop next input)) in
    run_skip c.args.matcher c.args.input.now c.args.from c.args.notes.now c.loop-ended.ended.matcher _ _ _ _ q.going q.roomy
    c.args.matcher.signature q.own c.quiet_until-until.result c.quiet_until-until.ensures.0 c.quiet_until-until.ensures.1
    c.skip-start.result (rw rest at c.skip-start.ensures) c.saturating_sub-skipped.result c.saturating_sub-skipped.ensures

-- the powers of the card's key
table : (c : After-climb) → c.args.matcher.signature.length ≤ max_length → Shifts c.args.matcher.signature.key c.args.matcher.signature.length c.shifts-shifts.result
table c = rw c.of.ensures at c.shifts-shifts.ensures

pub overflow_add-ended : goal.overflow_add-ended
overflow_add-ended c = omega (arith, (passed c).within)

pub overflow_add-ended-in-loop-ended : goal.overflow_add-ended-in-loop-ended
overflow_add-ended-in-loop-ended c = omega (arith, (passed c).few, (passed c).room)

pub returns-then-start-ge-MAX_TAKEN : goal.returns-then-start-ge-MAX_TAKEN
returns-then-start-ge-MAX_TAKEN c =
    run-spent c.args.matcher c.args.input.now c.args.from c.args.notes.now _ _ _ _ _
    (passed (goal.at.returns-then-start-ge-MAX_TAKEN c).After-saturating_sub-skipped)
    c.if-ended-input.true c.loop-ended.invariant.roomy c.if-start-ge-MAX_TAKEN.true

pub returns-then-last-ended : goal.returns-then-last-ended
returns-then-last-ended c =
    let q = c.loop-ended.invariant in
    let climbed = (goal.at.returns-then-last-ended c).After-climb in
    let noted =
    run_noted c.args.matcher c.args.input.now c.args.from c.args.notes.now _ _ _ _ _
    (passed (goal.at.returns-then-last-ended c).After-saturating_sub-skipped)
    c.if-ended-input.true q.roomy c.if-start-ge-MAX_TAKEN.false c.args.matcher.signature q.own c.shifts-shifts.result (table climbed)
    c.next-now.result c.next-now.ensures.more c.climb.result c.climb.ensures _ _ c.put_answer.ensures
    in
    rw q.accepted (run-full c.args.matcher c.args.input.now c.args.from c.args.notes.now _ _ _ _ _ noted (omega (arith, c.if-last-ended.true)))

pub loop-ended-preserved-else-last-ended : goal.loop-ended-preserved-else-last-ended
loop-ended-preserved-else-last-ended c =
    let q = c.loop-ended.invariant in
    record {
      going =
          run_noted c.args.matcher c.args.input.now c.args.from c.args.notes.now _ _ _ _ _
          (passed (goal.at.loop-ended-preserved-else-last-ended c).After-saturating_sub-skipped)
          c.if-ended-input.true q.roomy c.if-start-ge-MAX_TAKEN.false c.args.matcher.signature q.own c.shifts-shifts.result
          (table (goal.at.loop-ended-preserved-else-last-ended c).After-climb)
          c.next-now.result c.next-now.ensures.more c.climb.result c.climb.ensures _ _ c.put_answer.ensures;
      roomy = omega (arith, c.requires.2, c.if-last-ended.false);
      accepted = q.accepted;
      own = q.own;
    }

pub loop-ended-preserved-else-not-is_silent : goal.loop-ended-preserved-else-not-is_silent
loop-ended-preserved-else-not-is_silent c =
    let q = c.loop-ended.invariant in
    record {
      going =
          run_silent c.args.matcher c.args.input.now c.args.from c.args.notes.now _ _ _ _ _
          (passed (goal.at.loop-ended-preserved-else-not-is_silent c).After-saturating_sub-skipped)
          c.if-ended-input.true q.roomy c.if-start-ge-MAX_TAKEN.false c.args.matcher.signature q.own c.shifts-shifts.result
          (table (goal.at.loop-ended-preserved-else-not-is_silent c).After-climb)
          c.next-now.result c.next-now.ensures.more c.climb.result c.climb.ensures (sym c.is_silent.ensures ∙ c.if-not-is_silent.false);
      roomy = q.roomy;
      accepted = q.accepted;
      own = q.own;
    }

pub loop-ended-preserved : goal.loop-ended-preserved
loop-ended-preserved c =
    let q = c.loop-ended.invariant in
    record { going = passed (goal.at.loop-ended-preserved c).After-saturating_sub-skipped; roomy = q.roomy; accepted = q.accepted; own = q.own }

pub returns : goal.returns
returns c =
    let q = c.loop-ended.invariant in
    let end = run_end c.args.matcher c.args.input.now c.args.from c.args.notes.now c.loop-ended.ended.matcher _ _ _ _ q.going c.loop-ended-test.false in
    rw (← q.accepted) at end
