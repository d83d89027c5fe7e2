-- `scan` meets its contract: the events passed gave the strokes written, and the rest will give the others.
use Prim.Native.Nat.{ℕ, ◌+◌, ◌*◌, ◌≤◌, ◌<◌}
use mathlib.Core.Path.{◌≡◌, sym, ◌∙◌}
use mathlib.Core.List.{List}
use native.Mathlib.Omega.{arith}
use lib.ListN.{length, get_or}
use Rattle.std.proofs.Common.{Some, None}
use Rattle.std.proofs.lemmas.Result.{IfOk-weaker}
use Rattle.midi_file.specs.Track.{quantity_at, event_at}
use Rattle.midi_file.specs.Strokes.{note_on}
use Rattle.refusal.specs.Number.{number}
use Rattle.midi_file.proofs.Bounds.{event-bounds}
use Rattle.midi_file.specs.declared.Bells.{Bells}
use Rattle.midi_file.proofs.Quantities.{Passed, passed-out, passed-cut, passed-last, passed-more}
use Rattle.midi_file.proofs.Scanning.{
  Done,
  Head,
  head-none,
  head-broken,
  head-here,
  Here,
  here-broken,
  here-outside,
  here-silent,
  here-struck,
  here-full,
  Gone,
  gone-end,
  gone-on,
}
use Rattle.midi_file.proofs.scan.Goals as goal
use Rattle.midi_file.proofs.scan.Goals.{
  then-left-eq0-via-then-left-eq0,
  then-left-eq0-via-else-left-eq0+then-track-at,
}
use Rattle.midi_file.proofs.scan.Goals.{After-is_end, in-Silent, in-Struck, then-count-out, else-count-out}

pub events-init : goal.events-init
events-init c = head-none (note_on c.args.bells) c.args.track.now c.args.out.now

pub loop-left-preserved : goal.loop-left-preserved
loop-left-preserved c =
    let l = c.loop-left in
    let track = c.args.track.now in
    let q = l.invariant.1.1 in (
      omega arith,
      (omega arith, (_, passed-more track c.events.at q.0 l.at l.left q.1 (omega arith) (omega arith) (c.type_inv.track l.at).fits (omega arith))),
    )

-- what is known at an event, behind its time
here :
    (bells : Bells) (track entry out : List ℕ) (running at count next left : ℕ)
    → Head (note_on bells) track entry out running at count
    → (at ≤ next) × ((next ≤ length track) × ((value : ℕ) × Passed track at value next left))
    → 0 < left
    → next < length track
    → get_or track next 0 < 128
    → Here (note_on bells) track entry out running (next + 1) count
here bells track entry out running at count next left g l more inside last =
    let q = l.1.1 in
    head-here (note_on bells) track entry out running at count g
    (record { value = 128 * q.0 + get_or track next 0; behind = next + 1 })
    (passed-last track at q.0 next left q.1 more inside last)
    (omega arith) (omega arith)

pub returns-then-left-eq0 : goal.returns-then-left-eq0
returns-then-left-eq0 c =
    let a = c.args in
    let g = c.events in
    let l = c.loop-left in
    let q = l.invariant.1.1 in
    let none : None ≡ quantity_at a.track.now g.at =
    elim c.then-left-eq0.branch [
      | then-left-eq0-via-then-left-eq0 w ↦ passed-out a.track.now g.at q.0 l.at l.left q.1 (omega arith)
      | then-left-eq0-via-else-left-eq0+then-track-at w ↦ passed-cut a.track.now g.at q.0 l.at l.left q.1 w.if-track-at.true
    ]
    in
    let done : Done (note_on a.bells) a.track.now a.out.now g.out g.count 16 =
    head-broken (note_on a.bells) a.track.now a.out.now g.out g.running g.at g.count g.invariant none
    in
    record { verdict = done.0; count = tt; buffer = done.1.1 }

pub returns-in_default : goal.returns-in_default
returns-in_default c =
    let a = c.args in
    let g = c.events in
    let at =
    here a.bells a.track.now a.out.now g.out g.running g.at g.count c.loop-left.at c.loop-left.left g.invariant c.loop-left.invariant
    (omega arith) (omega arith) (omega arith)
    in
    let done : Done (note_on a.bells) a.track.now a.out.now g.out g.count 16 =
    here-broken (note_on a.bells) a.track.now a.out.now g.out g.running (c.loop-left.at + 1) g.count at
    (sym c.in_default.ensures)
    in
    record { verdict = done.0; count = tt; buffer = done.1.1 }

pub returns-in-Outside : goal.returns-in-Outside
returns-in-Outside c =
    let a = c.args in
    let g = c.events in
    let at =
    here a.bells a.track.now a.out.now g.out g.running g.at g.count c.loop-left.at c.loop-left.left g.invariant c.loop-left.invariant
    (omega arith) (omega arith) (omega arith)
    in
    let done : Done (note_on a.bells) a.track.now a.out.now g.out g.count 17 =
    here-outside (note_on a.bells) a.track.now a.out.now g.out g.running (c.loop-left.at + 1) g.count at
    c.in-Some.placed (sym c.in-Some.ensures) (sym c.in-Outside.ensures)
    in
    record { verdict = done.0; count = tt; buffer = done.1.1 }

-- the event was read and gave its stroke, if it gave one
gone : (c : After-is_end) → Gone (note_on c.args.bells) c.args.track.now c.args.out.now c.match-note_of.out c.in-Some.placed c.match-note_of.count
gone c =
    let a = c.args in
    let g = c.events in
    let p = c.in-Some.placed in
    let rule = note_on a.bells in
    let next = c.loop-left.at + 1 in
    let at =
    here a.bells a.track.now a.out.now g.out g.running g.at g.count c.loop-left.at c.loop-left.left g.invariant c.loop-left.invariant
    (omega arith) (omega arith) (omega arith)
    in
    let read : event_at a.track.now g.running next ≡ Some p = sym c.in-Some.ensures in
    elim c.match-note_of.branch [
      | in-Silent w ↦
          rw (w.out-is, w.count-is)
          (here-silent rule a.track.now a.out.now g.out g.running next g.count at p read (sym w.in-Silent.ensures))
      | in-Struck w ↦
          let n = sym w.in-Struck.ensures in
          rw (w.out-is, w.count-is)
          (elim w.if-count-out.branch [
            | then-count-out v ↦
                rw v.out-is
                (here-struck rule a.track.now a.out.now g.out g.running next g.count at p read w.in-Struck.key n v.if-count-out.true)
            | else-count-out v ↦
                rw v.out-is
                (here-full rule a.track.now a.out.now g.out g.running next g.count at p read w.in-Struck.key n v.if-count-out.false)
          ])
    ]

pub events-smaller : goal.events-smaller
events-smaller c =
    let b = event-bounds c.args.track.now c.events.running (c.loop-left.at + 1) c.in-Some.placed (sym c.in-Some.ensures) in
    omega (arith, b.0, b.1)

pub events-preserved : goal.events-preserved
events-preserved c =
    let a = c.args in
    rw c.running-running.ensures
    (gone-on (note_on a.bells) a.track.now a.out.now c.match-note_of.out c.in-Some.placed c.match-note_of.count
    (gone (goal.at.events-preserved c).After-is_end)
    (sym c.is_end.ensures ∙ c.if-is_end.false))

pub returns-then-is_end : goal.returns-then-is_end
returns-then-is_end c =
    let a = c.args in
    let n = number c.closing.result in
    let done : Done (note_on a.bells) a.track.now a.out.now c.match-note_of.out c.match-note_of.count n =
    gone-end (note_on a.bells) a.track.now a.out.now c.match-note_of.out c.in-Some.placed c.match-note_of.count
    (gone (goal.at.returns-then-is_end c).After-is_end)
    (sym c.is_end.ensures ∙ c.if-is_end.true) n c.closing.ensures.verdict
    in
    record {
      verdict = done.0;
      count = IfOk-weaker c.closing.result _ _ (λ n e. e ∙ done.1.0) c.closing.ensures.count;
      buffer = done.1.1;
    }
