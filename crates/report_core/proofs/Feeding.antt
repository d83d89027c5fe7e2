-- The turns of `feed`: at the buffer's front stands what the bytes taken brought, and behind it the buffer is as it was.
-- Assumes nothing.
use Prim.Native.Nat.{ℕ, ◌+◌, ◌-◌, ◌*◌, ◌≤◌, ◌<◌}
use mathlib.Core.Path.{◌≡◌, refl, sym, ◌∙◌, ap}
use mathlib.Core.Bool.{Bool, true, false, cond}
use mathlib.Core.List.{List, [], ◌++◌, append-nil}
use native.Mathlib.Omega.{arith}
use lib.Dec.{eqb}
use lib.ListN.{length, take, drop, length-append, take-append-drop, drop_of_length-le}
use lib.Seq.{drop-cons, drop-drop}
use borrow.Author.Tests.{ne_eqb, leb-true, le-leb, lt-leb}
use Rattle.lists.proofs.Laws.{and_right}
use Rattle.refusal.specs.declared.Refusal.{Refusal}
use Rattle.std.specs.Prelude.{Result, Ok, Err}
use Rattle.std.specs.Result.{is_err}
use Rattle.refusal.proofs.Distinct.{refused-some}
use Rattle.refusal.specs.Number.{number, refusal_number}
use Rattle.stage.specs.Stage.{max_taken}
use Rattle.matcher.specs.Matcher.{matcher_fits}
use Rattle.report_lines.specs.Lines.{room}
use Rattle.report_core.specs.declared.Progress.{Progress}
use Rattle.report_core.specs.declared.Fed.{Fed}
use Rattle.report_core.specs.Progress.{most_comparisons, progress_fits, Heard, stopped, behind, heard_while, room_in, fed}
use Rattle.report_core.specs.Turn.{Turns}
use Rattle.report_core.specs.Calls.{Feeds}
use Rattle.report_core.proofs.Hearing.{heard-by, behind-behind, fits-within}
use Rattle.report_core.proofs.Putting.{PutAt, laid}

-- How far the turns have come: at first p₀ and the buffer `entry`; now p, so many bytes taken and so many used, and the buffer `out`.
pub record Along (p₀ : Progress) (bytes entry : List ℕ) (p : Progress) (taken used : ℕ) (out : List ℕ) : Type 0 where
  pub said : List ℕ
  pub same :
      heard_while (room_in (length entry)) 0 p₀ bytes
      ≡ behind taken said (heard_while (room_in (length entry)) used p (drop taken bytes))
  pub place : used ≡ length said
  pub within : used ≤ length out
  pub front : take used out ≡ said
  pub rest : drop used out ≡ drop used entry
  pub size : length out ≡ length entry
  pub limit : p.matcher.now.at ≤ max_taken
  pub fits : p.total ≤ most_comparisons * p.matcher.now.at

pub along-begin :
    (p : Progress) (bytes entry : List ℕ) → progress_fits p ≡ true → Along p bytes entry p 0 0 entry
along-begin p bytes entry f =
    record {
      said = [];
      same = heard-by refl (omega arith) refl refl;
      place = refl;
      within = omega arith;
      front = refl;
      rest = refl;
      size = refl;
      limit = fits-within p f;
      fits = leb-true _ _ (and_right (matcher_fits p.matcher) _ f);
    }

-- what the turns have come to, where they end
feeds :
    (h : Heard) (entry out said : List ℕ) (p : Progress) (taken : ℕ) (r : Fed)
    → h ≡ behind taken said (stopped p (number r.verdict))
    → r.progress ≡ p
    → r.taken ≡ taken
    → r.used ≡ length said
    → take (length said) out ≡ said
    → drop (length said) out ≡ drop (length said) entry
    → Feeds h entry r out
feeds h entry out said p taken r e ep et eu front rest =
    record {
      verdict = rw e;
      progress = rw e ep;
      taken = rw e (omega (arith, et));
      used = rw (e, append-nil) eu;
      buffer = rw (e, append-nil) (sym (take-append-drop (length said) out) ∙ rw (front, rest));
    }

-- what comes behind a turn
abbrev pub afterwards : List ℕ → List ℕ → Fed → Heard
afterwards entry bytes r =
    cond (eqb (number r.verdict) 0)
    (heard_while (room_in (length entry)) r.used r.progress (drop r.taken bytes))
    (stopped r.progress (number r.verdict))

module _ (p₀ : Progress) (bytes entry : List ℕ) (p : Progress) (taken used : ℕ) (out : List ℕ)
    (a : Along p₀ bytes entry p taken used out) where
  module _ (r : Fed) (exit : List ℕ) (q : Turns p bytes taken used out r exit) where
    turned : heard_while (room_in (length entry)) 0 p₀ bytes ≡ behind r.taken (a.said ++ q.lines) (afterwards entry bytes r)
    turned =
        a.same
        ∙ ap (behind taken a.said) (rw a.size at q.same)
        ∙ behind-behind taken (r.taken - taken) a.said q.lines _
        ∙ heard-by refl (omega (arith, q.onward)) refl refl

    -- what stands in the buffer then
    put : PutAt out used q.lines r.used exit
    put = rw q.place (laid out used q.lines exit a.within q.buffer)

    place : r.used ≡ length (a.said ++ q.lines)
    place = rw length-append (omega (arith, a.place, q.place))

    front : take r.used exit ≡ a.said ++ q.lines
    front = put.front ∙ ap (λ l. l ++ q.lines) a.front

    rest : drop r.used exit ≡ drop r.used entry
    rest =
        let n = length q.lines in
        put.behind ∙ rw (q.place, ← drop-drop n used out, ← drop-drop n used entry) (ap (drop n) a.rest)

    -- a turn that nothing ends
    pub on : length exit ≡ length out → number r.verdict ≡ 0 → Along p₀ bytes entry r.progress r.taken r.used exit
    on same e =
        record {
          said = a.said ++ q.lines;
          same = rw e at turned;
          place = place;
          within = put.within;
          front = front;
          rest = rest;
          size = same ∙ a.size;
          limit = q.limit;
          fits = q.fits;
        }

    -- a turn that a refusal ends
    pub refused : (number r.verdict ≡ 0 → ⊥) → Feeds (heard_while (room_in (length entry)) 0 p₀ bytes) entry r exit
    refused n =
        feeds _ entry exit (a.said ++ q.lines) r.progress r.taken r (rw (ne_eqb (number r.verdict) 0 n) at turned) refl refl place
        (rw place at front) (rw place at rest)

  -- the buffer is full
  pub full :
      (v : Result (Unit {0}) Refusal)
      → number v ≡ 0
      → taken < length bytes
      → length out < used + room
      → Feeds (heard_while (room_in (length entry)) 0 p₀ bytes) entry (record { verdict = v; progress = p; taken = taken; used = used }) out
  unfolding heard_while
  full v z more l =
      let none : heard_while (room_in (length entry)) used p (drop taken bytes) ≡ stopped p 0 =
      rw (drop-cons bytes taken 0 more, ← a.size, lt-leb (used + room) (length out) l) in
      feeds _ entry out a.said p taken _ (rw z (a.same ∙ ap (behind taken a.said) none)) refl refl a.place (rw a.place at a.front)
      (rw a.place at a.rest)

-- no byte is left
pub used-up :
    (p₀ : Progress) (bytes entry : List ℕ) (p : Progress) (taken used : ℕ) (out : List ℕ)
    → Along p₀ bytes entry p taken used out
    → (v : Result (Unit {0}) Refusal)
    → number v ≡ 0
    → length bytes ≤ taken
    → Feeds (heard_while (room_in (length entry)) 0 p₀ bytes) entry (record { verdict = v; progress = p; taken = taken; used = used }) out
unfolding heard_while
used-up p₀ bytes entry p taken used out a v z l =
    let none : heard_while (room_in (length entry)) used p (drop taken bytes) ≡ stopped p 0 = rw (drop_of_length-le bytes l) in
    feeds _ entry out a.said p taken _ (rw z (a.same ∙ ap (behind taken a.said) none)) refl refl a.place (rw a.place at a.front)
    (rw a.place at a.rest)

-- what the test of a verdict tells
pub err-some : (v : Result (Unit {0}) Refusal) → is_err v ≡ true → number v ≡ 0 → ⊥
err-some (Ok x) e z = let w : ◌≡◌ {A = Bool} false true = e in cc
err-some (Err r) e z = refused-some {A = Unit {0}} {v = Err r} refl z

pub err-none : (v : Result (Unit {0}) Refusal) → is_err v ≡ false → number v ≡ 0
err-none (Ok x) e = refl
err-none (Err r) e = let w : ◌≡◌ {A = Bool} true false = e in cc

-- The tests before the first turn.
module _ (size : ℕ) (p : Progress) (bytes : List ℕ) where
  pub fed-on : progress_fits p ≡ true → room ≤ size → fed size p bytes ≡ heard_while (room_in size) 0 p bytes
  unfolding fed
  fed-on f r = rw (f, le-leb (0 + room) size (omega arith))

  pub fed-misfit : progress_fits p ≡ false → fed size p bytes ≡ stopped p 10
  unfolding fed
  fed-misfit f = rw f

  pub fed-small : progress_fits p ≡ true → size < room → fed size p bytes ≡ stopped p 7
  unfolding fed
  fed-small f l = rw (f, lt-leb (0 + room) size (omega arith))

pub not-fed :
    (h : Heard) (entry : List ℕ) (p : Progress) (refusal : Refusal) (r : Fed)
    → h ≡ stopped p (refusal_number refusal)
    → r ≡ record { verdict = Err refusal; progress = p; taken = 0; used = 0 }
    → Feeds h entry r entry
not-fed h entry p refusal r e q = rw (e, q) (record { verdict = refl; progress = refl; taken = refl; used = refl; buffer = refl })
