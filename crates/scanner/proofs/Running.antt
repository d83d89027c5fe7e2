-- A run of strokes: what is still to be taken from here on ends where all of it ends.
-- Assumes nothing.
use Prim.Native.Nat.{ℕ, suc, ◌+◌, ◌-◌, ◌*◌, ◌≤◌, ◌<◌}
use mathlib.Core.Path.{◌≡◌, refl, sym, ◌∙◌, ap}
use mathlib.Core.Bool.{true, false}
use mathlib.Core.List.{List, [], ◌∷◌, ◌++◌, append-nil, append_assoc}
use native.Mathlib.Nat.{zero-add}
use native.Mathlib.Decide.{dec_lt}
use native.Mathlib.Numerals.{add-one}
use native.Mathlib.Omega.{arith}
use lib.ListN.{length, drop, get_or, length-append, length-drop, drop_of_length-le}
use lib.Seq.{drop-cons, drop-drop, sets-eq}
use borrow.Author.Tests.{lt-ltb, le-ltb, le-leb, lt-leb}
use Rattle.ladder.specs.Prefix.{levels}
use Rattle.ladder.proofs.Levels.{levels-bound}
use Rattle.lists.specs.Stored.{Stored}
use Rattle.lists.proofs.Storing.{nothing, run, at_most, same_size}
use Rattle.signature.specs.declared.Signature.{Signature}
use Rattle.signature.specs.Signature.{places, max_length}
use Rattle.fingerprint.specs.declared.Power.{Power}
use Rattle.fingerprint.specs.Fingerprint.{empty}
use Rattle.powers.specs.Powers.{Shifts}
use Rattle.walk.specs.declared.Walk.{Walk}
use Rattle.walk.specs.Climb.{walked_by}
use Rattle.walk.specs.Quiet.{Unripe}
use Rattle.matcher.proofs.Climbing.{climbed as walk_of}
use Rattle.refusal.specs.declared.Refusal.TheVariants.{Spent, NoSpace, Misfit}
use Rattle.refusal.specs.Number.{number}
use Rattle.refusal.specs.declared.Refusal.{Refusal}
use Rattle.std.specs.Prelude.{Result, Ok, Err}
use Rattle.stage.specs.declared.Mark.{Mark}
use Rattle.stage.specs.Stage.{max_taken}
use Rattle.matcher.specs.declared.Matcher.{Matcher}
use Rattle.scanner.specs.declared.Ended.{Ended}
use Rattle.matcher.specs.Matcher.{matcher_fits, moved}
use Rattle.walk.specs.Walk.{silent}
use Rattle.stage.specs.Stage.{next_mark}
use Rattle.matcher.specs.Stroke.{walked, stroke_refusal, stroke_answer}
use Rattle.notes.specs.Notes.{notes_of, note_room, notes_within}
use Rattle.notes.proofs.Noting.{silent-notes}
use Rattle.scanner.specs.Scan.{halted, scanned, scan_of}
use Rattle.scanner.specs.Skip.{skipped, end_of, Ends}
use Rattle.matcher.proofs.Sound.{sound, card-of, after-taken, answer-taken}
use Rattle.matcher.proofs.StrokeFits.{stroke-fits}
use Rattle.matcher.proofs.Ceiling.{ceiling}
use Rattle.matcher.proofs.Quiet.{Calm, moved_on, sooner}
use Rattle.scanner.proofs.Skips.{first, ahead, scanned-by, Skips, no-skips, skips, skipped-none}

-- without room nothing more is taken
scanned-full : (size used : ℕ) (w : Matcher) (bytes : List ℕ) → size < used + note_room → scanned size used w bytes ≡ halted w 0
unfolding scanned
scanned-full size used w [] l = refl
scanned-full size used w (byte ∷ bytes) l = rw (lt-leb (used + note_room) size l)

-- The run at a place of the input and behind some notes: the watch fits, its comparisons are few, the notes stand at the list's front, and what is
-- left to take is taken by it.
pub record Running (self : Matcher) (input : List ℕ) (from : ℕ) (entry : List ℕ)
    (w : Matcher) (at noted comparisons : ℕ) (exit : List ℕ) : Type 0 where
  pub said : List ℕ
  pub fits : matcher_fits w ≡ true
  pub room : w.now.at ≤ max_taken
  pub begun : from ≤ at
  pub within : at ≤ length input
  pub few : comparisons + places * self.now.at ≤ places * w.now.at
  pub stored : Stored entry 0 said (length entry) noted exit
  pub same :
      scanned (length entry) 0 self (drop from input)
      ≡ ahead said comparisons (at - from) (scanned (length entry) noted w (drop at input))

module _ (self : Matcher) (input : List ℕ) (from : ℕ) (entry : List ℕ) where
  pub run-begin : matcher_fits self ≡ true → from ≤ length input → Running self input from entry self from 0 0 entry
  run-begin fits inside =
      record {
        said = [];
        fits = fits;
        room = (sound self fits).within;
        begun = omega arith;
        within = inside;
        few = omega arith;
        stored = at_most (omega arith) (nothing entry 0);
        same = scanned-by refl refl (omega arith) (omega arith) refl;
      }

  module _ (w : Matcher) (at noted comparisons : ℕ) (exit : List ℕ) (q : Running self input from entry w at noted comparisons exit) where
    -- where nothing more is taken
    ends :
        (verdict : Result (Unit {0}) Refusal)
        → scanned (length entry) noted w (drop at input) ≡ halted w (number verdict)
        → Ends from (scanned (length entry) 0 self (drop from input)) entry (end_of w noted comparisons at verdict) exit
    ends verdict e =
        rw (q.same ∙ ap (ahead q.said comparisons (at - from)) e, append-nil)
        (record {
          matcher = refl;
          noted = omega (arith, q.stored.behind);
          notes = q.stored.buffer ∙ sets-eq q.said entry 0 (omega (arith, q.stored.within)) ∙ rw zero-add;
          comparisons = omega arith;
          next = omega (arith, q.begun);
          verdict = refl;
        })

    -- no byte is left, or there is no room for the notes of one more
    pub run_end :
        length input ≤ at → Ends from (scanned (length entry) 0 self (drop from input)) entry (end_of w noted comparisons at (Ok tt)) exit
    unfolding scanned
    run_end l = ends (Ok tt) (ap (scanned (length entry) noted w) (drop_of_length-le input l))

    pub run-full :
        length entry < noted + note_room
        → Ends from (scanned (length entry) 0 self (drop from input)) entry (end_of w noted comparisons at (Ok tt)) exit
    run-full l = ends (Ok tt) (scanned-full (length entry) noted w (drop at input) l)

    module _ (inside : at < length input) (roomy : noted + note_room ≤ length entry) where
      abbrev byte : ℕ
      byte = get_or input at 0

      here : drop at input ≡ byte ∷ drop (at + 1) input
      here = drop-cons input at 0 inside ∙ rw add-one

      pub run-spent :
          max_taken ≤ w.now.at
          → Ends from (scanned (length entry) 0 self (drop from input)) entry (end_of w noted comparisons at (Err Spent)) exit
      unfolding scanned
      run-spent l =
          let spent : stroke_refusal w ≡ 6 = rw (q.fits, le-ltb w.now.at max_taken l) in
          ends (Err Spent)
          (ap (scanned (length entry) noted w) here ∙ rw (le-leb (noted + note_room) (length entry) roomy, spent))

      -- the byte is taken
      module _ (below : w.now.at < max_taken) where
        accepted : stroke_refusal w ≡ 0
        accepted = rw (q.fits, lt-ltb w.now.at max_taken below)

        abbrev after : Matcher
        after = moved w (next_mark w.signature.key w.now byte) (walked w byte).stages

        answered : stroke_answer w byte ≡ (walked w byte).answer
        answered = answer-taken w byte accepted

        run-count : (walked w byte).answer.comparisons ≤ places
        run-count =
            let count : (stroke_answer w byte).comparisons ≤ suc (levels w.signature.length) = ceiling w byte in
            omega (arith, rw answered at count, levels-bound w.signature.length (card-of (sound w q.fits)).short)

        -- and its notes stand behind the others
        run_step :
            (next : ℕ) (left : List ℕ)
            → Stored exit noted (notes_of (suc w.now.at) (walked w byte).answer) note_room next left
            → Running self input from entry after (at + 1) next (comparisons + (walked w byte).answer.comparisons) left
        unfolding scanned
        run_step next left s =
            let notes : List ℕ = notes_of (suc w.now.at) (walked w byte).answer in
            let both = run q.stored s in
            record {
              said = q.said ++ notes;
              fits = rw (after-taken w byte accepted) at (stroke-fits w byte accepted);
              room = omega arith;
              begun = omega (arith, q.begun);
              within = omega arith;
              few = omega (arith, q.few, run-count);
              stored =
                  record {
                    behind = both.behind;
                    within = rw length-append (omega (arith, q.stored.behind, s.within));
                    buffer = both.buffer;
                  };
              same =
                  q.same
                  ∙ ap (λ l. ahead q.said comparisons (at - from) (scanned (length entry) noted w l)) here
                  ∙ rw (le-leb (noted + note_room) (length entry) roomy, accepted, answered, after-taken w byte accepted, ← s.behind)
                  (scanned-by refl (sym (append_assoc q.said notes _)) (omega arith) (omega (arith, q.begun)) refl);
            }

        -- with the watch's card, and the powers of its key
        module _ (card : Signature) (own : w.signature ≡ card) (shifts : List Power)
            (table : card.length ≤ max_length → Shifts card.key card.length shifts)
            (now : Mark) (onward : w.now.at < max_taken → now ≡ next_mark card.key w.now byte)
            (r : Walk) (climbs : r ≡ walked_by shifts (record { signature = card; now = now }) w.now w.stages) where
          walk : r ≡ walked w byte
          walk =
              walk_of w byte accepted card.key (ap (λ (c : Signature). c.key) (sym own)) shifts
              (λ l. rw own (table (rw own at l))) now (rw (← own) at onward) r (rw (← own) at climbs)

          later : now ≡ next_mark w.signature.key w.now byte
          later = rw own (onward below)

          pub run_noted :
              (next : ℕ) (left : List ℕ)
              → Stored exit noted (notes_within (length exit) noted now.at r.answer) note_room next left
              → Running self input from entry (record { signature = w.signature; now = now; stages = r.stages }) (at + 1) next (comparisons + r.answer.comparisons) left
          run_noted next left s =
              let room : noted + note_room ≤ length exit = omega (arith, same_size q.stored) in
              rw (walk, later)
              (run_step next left (rw (walk, later, le-leb (noted + note_room) (length exit) room) at s))

          pub run_silent :
              silent r.answer ≡ true
              → Running self input from entry (record { signature = w.signature; now = now; stages = r.stages }) (at + 1) noted (comparisons + r.answer.comparisons) exit
          run_silent e =
              let quiet : silent (walked w byte).answer ≡ true = rw walk at e in
              rw (walk, later)
              (run_step noted exit (rw (silent-notes (suc w.now.at) (walked w byte).answer quiet) (at_most (omega arith) (nothing exit noted))))

    -- bytes were passed over
    module _ (roomy : noted + note_room ≤ length entry) where
      run-passed :
          (until n : ℕ) (r : Mark)
          → until ≤ max_taken
          → n ≤ until - w.now.at
          → (s : Skips (length entry) noted w n (drop at input) r)
          → Running self input from entry (moved_on w r) (at + (r.at - w.now.at)) noted (comparisons + (r.at - w.now.at)) exit
      run-passed until n r low soon s =
          let taken : r.at - w.now.at ≡ s.taken = omega (arith, s.moves) in
          rw taken
          (record {
            said = q.said;
            fits = s.fits;
            room = omega (arith, q.room, s.moves, s.most);
            begun = omega (arith, q.begun);
            within = omega (arith, q.within, s.short, length-drop at input);
            few = omega (arith, q.few, s.moves);
            stored = q.stored;
            same =
                q.same
                ∙ ap (ahead q.said comparisons (at - from)) s.same
                ∙ rw drop-drop (scanned-by refl refl (omega arith) (omega (arith, q.begun)) refl);
          })

      run-skipped :
          (until : ℕ) → until ≤ max_taken → Calm w until
          → (r : Mark) → r ≡ skipped w.signature.key (first w) (until - w.now.at) w.now (drop at input)
          → Running self input from entry (moved_on w r) (at + (r.at - w.now.at)) noted (comparisons + (r.at - w.now.at)) exit
      run-skipped until low unripe r e =
          let n : ℕ = until - w.now.at in
          run-passed until n r low (omega arith)
          (rw e
          (elim (dec_lt w.now.at until) [
            | yes l ↦ skips (length entry) noted roomy n (drop at input) w q.fits (omega arith) (sooner w (omega arith) unripe)
            | no l ↦
                rw (skipped-none w.signature.key (first w) input w.now n at (omega arith))
                (no-skips (length entry) noted w n (drop at input) q.fits)
          ]))

      -- with the watch's card
      pub run_skip :
          (card : Signature) → w.signature ≡ card
          → (until : ℕ) → until ≤ max_taken → Unripe (levels card.length) card.length until w.stages
          → (r : Mark) → r ≡ skipped card.key (get_or card.prints 0 empty) (until - w.now.at) w.now (drop at input)
          → (n : ℕ) → n ≡ r.at - w.now.at
          → Running self input from entry (moved_on w r) (at + n) noted (comparisons + n) exit
      run_skip card own until low unripe r e n taken =
          rw taken (run-skipped until low (rw (← own) at unripe) r (rw (← own) at e))

-- What a call comes to: where the watch is a misfit, the list has no room, or no byte is left, nothing is taken.
module _ (self : Matcher) (input : List ℕ) (from : ℕ) (entry : List ℕ) where
  halts :
      (verdict : Result (Unit {0}) Refusal)
      → scan_of (length entry) self (drop from input) ≡ halted self (number verdict)
      → Ends from (scan_of (length entry) self (drop from input)) entry (end_of self 0 0 from verdict) entry
  halts verdict e =
      rw e (record { matcher = refl; noted = refl; notes = refl; comparisons = refl; next = omega arith; verdict = refl })

  pub scan-misfit :
      matcher_fits self ≡ false → Ends from (scan_of (length entry) self (drop from input)) entry (end_of self 0 0 from (Err Misfit)) entry
  unfolding scan_of
  scan-misfit e = halts (Err Misfit) (rw e)

  module _ (fits : matcher_fits self ≡ true) where
    pub scan-small :
        length entry < note_room
        → Ends from (scan_of (length entry) self (drop from input)) entry (end_of self 0 0 from (Err NoSpace)) entry
    unfolding scan_of
    scan-small l = halts (Err NoSpace) (rw (fits, lt-leb (0 + note_room) (length entry) (omega arith)))

    module _ (room : note_room ≤ length entry) where
      scan-run : scan_of (length entry) self (drop from input) ≡ scanned (length entry) 0 self (drop from input)
      unfolding scan_of
      scan-run = rw (fits, le-leb (0 + note_room) (length entry) (omega arith))

      pub scan-none :
          length input ≤ from → Ends from (scan_of (length entry) self (drop from input)) entry (end_of self 0 0 from (Ok tt)) entry
      unfolding scanned
      scan-none l = halts (Ok tt) (scan-run ∙ ap (scanned (length entry) 0 self) (drop_of_length-le input l))

      pub scan-fits :
          (r : Ended) (exit : List ℕ)
          → Ends from (scanned (length entry) 0 self (drop from input)) entry r exit
          → Ends from (scan_of (length entry) self (drop from input)) entry r exit
      scan-fits r exit e = rw scan-run e
