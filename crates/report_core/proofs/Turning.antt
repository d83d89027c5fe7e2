-- One turn of `feed`: the scan's notes are few enough for the buffer, and their lines are what the bytes taken bring.
-- Assumes nothing.
use Prim.Native.Nat.{ℕ, ◌+◌, ◌-◌, ◌*◌, ◌/◌, ◌≤◌, ◌<◌}
use mathlib.Core.Path.{◌≡◌, sym, ◌∙◌, ap}
use mathlib.Core.Bool.{true}
use mathlib.Core.List.{List, ◌++◌}
use native.Mathlib.Omega.{arith}
use lib.ListN.{length, take, drop, get_or, length-append, length-drop, get_or-append}
use lib.Seq.{drop-cons, drop-drop, length-take-le, take-append_seam, take-append-le}
use borrow.Author.Tests.{le-leb}
use Rattle.decimal.specs.Decimal.{put_limit}
use Rattle.refusal.specs.Number.{number}
use Rattle.stage.specs.Stage.{max_taken}
use Rattle.scanner.specs.declared.Ended.{Ended}
use Rattle.notes.specs.Notes.{note_size, note_room}
use Rattle.scanner.specs.Scan.{Scanned, scanned, scan_of}
use Rattle.std.specs.Prelude.{Some, None}
use Rattle.report_lines.specs.Sizes.{most_line}
use Rattle.report_lines.specs.Lines.{room, note_lines, has_notes_room, notes_placed, notes_written}
use Rattle.report_core.specs.declared.Progress.{Progress}
use Rattle.report_core.specs.Progress.{most_comparisons}
use Rattle.report_core.specs.Turn.{Turns}
use Rattle.report_core.proofs.Hearing.{scan-same, Enough, Small, heard-scan}
use Rattle.report_core.proofs.Transcript.{Ran, ran}

-- what scan promises, of the bytes from a place on and of the numbers lent to it, `lent` before the call and `left` behind it
abbrev pub Scans : Progress → List ℕ → ℕ → List ℕ → Ended → List ℕ → Type 0
Scans p bytes from lent s left =
    let r = scan_of (length lent) p.matcher (drop from bytes) in
    record {
      matcher : s.matcher ≡ r.matcher;
      noted : s.noted ≡ length r.notes;
      notes : left ≡ r.notes ++ drop (length r.notes) lent;
      comparisons : s.comparisons ≡ r.comparisons;
      next : s.next ≡ from + r.taken;
      verdict : number s.verdict ≡ r.refusal;
    }

-- what a turn requires, and what its share promises
abbrev pub Turnable : Progress → List ℕ → ℕ → ℕ → List ℕ → List ℕ → Type 0
Turnable p bytes taken used out notes =
    (taken < length bytes)
    × (used + room ≤ length out)
    × (note_room ≤ length notes)
    × (p.matcher.now.at ≤ max_taken)
    × (p.total ≤ most_comparisons * p.matcher.now.at)

abbrev pub Shared : ℕ → ℕ → ℕ → Type 0
Shared cap free most =
    (note_room ≤ cap) × (cap ≤ most) × (note_size * room + most_line * cap ≤ note_size * free + most_line * note_room)

module _ (p : Progress) (bytes : List ℕ) (taken used : ℕ) (out notes : List ℕ) (cap : ℕ) (s : Ended) (left : List ℕ)
    (pre : Turnable p bytes taken used out notes) (share : Shared cap (length out - used) (length notes))
    (q : Scans p bytes taken (take cap notes) s left) (kept : length left ≡ length (take cap notes)) where
  abbrev lent : List ℕ
  lent = take cap notes

  more : taken < length bytes
  more = pre.0

  size : length lent ≡ cap
  size = length-take-le cap notes share.1

  low : note_room ≤ length lent
  low = omega (arith, size, share.0)

  enough : Enough (length out) (length lent) used 0
  enough = omega (arith, size, share, pre)

  abbrev run : Scanned
  run = scanned (length lent) 0 p.matcher (drop taken bytes)

  here : scan_of (length lent) p.matcher (drop taken bytes) ≡ run
  here = rw (drop-cons bytes taken 0 more) (scan-same (length lent) p.matcher _ _ low)

  -- the notes stand at the list's front, and not past its end
  few : length run.notes ≤ length lent
  few =
      let e : left ≡ run.notes ++ drop (length run.notes) lent = rw here at q.notes in
      omega (arith, kept, rw (length-append, length-drop) at (ap length e))

  pub noted-within : s.noted ≤ length lent
  noted-within = rw (q.noted, here) few

  pub noted-are : (behind : List ℕ) → take s.noted (left ++ behind) ≡ run.notes
  noted-are behind =
      take-append-le s.noted left behind (omega (arith, noted-within, kept)) ∙ rw (q.noted, q.notes, here) (take-append_seam run.notes _)

  pub noted_small : (behind : List ℕ) → ((i : ℕ) → get_or (left ++ behind) i 0 < put_limit) → Small (length out) (length lent) run.notes
  noted_small behind h i l =
      let front = get_or-append left behind 0 i (omega (arith, few, kept, l)) in
      let e : left ≡ run.notes ++ drop (length run.notes) lent = rw here at q.notes in
      let same = get_or-append run.notes (drop (length run.notes) lent) 0 i l in
      rw (front ∙ ap (λ k. get_or k i 0) e ∙ same) at (h i)

  -- there is room for their lines
  roomy : has_notes_room out used run.notes ≡ true
  roomy = le-leb (used + most_line * (length run.notes / note_size)) (length out) (omega (arith, few, enough))

  pub never-full : (notes : List ℕ) → notes ≡ run.notes → None ≡ notes_placed out used notes → ⊥
  unfolding notes_placed
  never-full notes e f =
      let f' = rw (e, roomy) at f in
      let z : ◌≡◌ {A = ℕ} 0 1 = cc in
      omega arith

  went : Ran (length lent) 0 p.matcher (drop taken bytes) run
  went = ran (length lent) 0 p.matcher (drop taken bytes)

  pub turn-limit : s.matcher.now.at ≤ max_taken
  turn-limit = rw (q.matcher, here) (went.within pre.3)

  pub turn-total : p.total + s.comparisons ≤ most_comparisons * s.matcher.now.at
  turn-total = rw (q.matcher, q.comparisons, here) (omega (arith, pre.4, went.later, went.few))

  pub turns :
      Small (length out) (length lent) run.notes
      → (notes : List ℕ) (end : ℕ) (exit : List ℕ)
      → notes ≡ run.notes
      → Some end ≡ notes_placed out used notes
      → exit ≡ notes_written out used notes
      → Turns p bytes taken used out
      (record {
        verdict = s.verdict;
        progress = record { matcher = s.matcher; total = p.total + s.comparisons };
        taken = s.next;
        used = end;
      }) exit
  unfolding notes_placed notes_written
  turns small notes end exit n placed written =
      let placed' = rw (n, roomy) at placed in
      let e : end ≡ used + length (note_lines run.notes) = cc in
      let taken_is : s.next ≡ taken + run.taken = rw here at q.next in
      record {
        lines = note_lines run.notes;
        same =
            let ahead : taken + run.taken - taken ≡ run.taken = omega arith in
            rw (e, taken_is, ahead, q.matcher, q.comparisons, q.verdict, here, ← drop-drop run.taken taken bytes)
            (heard-scan (length out) (length lent) (drop taken bytes) used 0 p enough small);
        onward = omega (arith, taken_is);
        moves =
            λ z. omega (arith, taken_is, went.moves (omega (arith, low)) (rw length-drop (omega arith)) (sym (rw here at q.verdict) ∙ z));
        place = e;
        buffer = rw (n, roomy) at written;
        limit = turn-limit;
        fits = turn-total;
      }
