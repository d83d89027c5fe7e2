-- A track that is read event by event: what the events passed gave, and what those to come will.
-- Assumes nothing.
use Prim.Native.Nat.{ℕ, suc, ◌+◌, ◌-◌, ◌≤◌, ◌<◌}
use mathlib.Core.Path.{◌≡◌, refl, sym, ap, subst, ◌∙◌}
use mathlib.Core.Bool.{true, false, cond, ◌&&◌}
use mathlib.Core.List.{List, [], ◌∷◌, ◌++◌, append-nil}
use native.Mathlib.Omega.{arith}
use native.Mathlib.Numerals.{add-one}
use lib.Dec.{eqb}
use lib.ListN.{length, take, drop, set, length-append, length-take, length-drop, drop_of_length-le}
use lib.Seq.{take-nil, take_all, take-append-le, drop-cons, set-append_seam, append_snoc}
use Rattle.std.proofs.Common.{Some, None}
use Rattle.lists.proofs.Cases.{by-test}
use Rattle.midi_file.proofs.Bounds.{event-bounds}
use Rattle.midi_file.specs.declared.event.Placed.{Placed}
use Rattle.midi_file.specs.declared.note.Note.TheVariants.{Outside, Silent, Struck}
use Rattle.midi_file.specs.declared.event.Quantity.{Quantity}
use Rattle.midi_file.specs.Track.{
  quantity_at,
  event_at,
  behind_time,
  Events,
  joined,
  followed,
  broken,
  events_from,
  events_of,
  running_behind,
  is_end,
  is_bare,
}
use Rattle.midi_file.specs.Strokes.{Rule, note_of, strokes_of, any_outside, events_refusal}
use Rattle.midi_file.specs.Calls.{track_strokes, track_refusal, filled}

-- Filling a buffer with one byte more.
pub length-filled : (bytes buf : List ℕ) → length (filled bytes buf) ≡ length buf
unfolding filled
length-filled bytes buf =
    length-append (take (length buf) bytes) (drop (length bytes) buf)
    ∙ rw (length-take (length buf) bytes, length-drop (length bytes) buf) (omega arith)

module _ (bytes buf : List ℕ) (b : ℕ) where
  snoc-length : length (bytes ++ b ∷ []) ≡ suc (length bytes)
  snoc-length = length-append bytes (b ∷ []) ∙ add-one (length bytes)

  pub filled_in : length bytes < length buf → set (filled bytes buf) (length bytes) b ≡ filled (bytes ++ b ∷ []) buf
  unfolding filled
  filled_in l =
      rw (
        take_all (length buf) bytes (omega arith),
        take_all (length buf) (bytes ++ b ∷ []) (omega (arith, snoc-length)),
        drop-cons buf (length bytes) 0 l,
        set-append_seam bytes,
        snoc-length,
        append_snoc bytes b (drop (suc (length bytes)) buf),
      )

  pub filled-out : length buf ≤ length bytes → filled bytes buf ≡ filled (bytes ++ b ∷ []) buf
  unfolding filled
  filled-out l =
      rw (
        take-append-le (length buf) bytes (b ∷ []) l,
        drop_of_length-le buf l,
        drop_of_length-le buf {i = length (bytes ++ b ∷ [])} (omega (arith, snoc-length)),
      )

-- The events before a place gave these strokes, and the rest will give the others.
pub record Going (rule : Rule) (track entry out : List ℕ) (at count : ℕ) (rest : Events) : Type 0 where
  pub early : List ℕ
  pub counted : count ≡ length early
  pub few : count ≤ at
  pub written : out ≡ filled early entry
  pub strokes : track_strokes rule track ≡ early ++ strokes_of rule rest.list
  pub refusal : track_refusal rule track ≡ events_refusal rule rest

-- the events behind one that was read
abbrev pub behind : ℕ → List ℕ → Placed → Events
behind spare track placed = events_from spare track (running_behind placed.event) placed.end

abbrev pub ending : List ℕ → Placed → Events
ending track placed = record { list = []; whole = is_bare placed.event && eqb placed.end (length track) }

abbrev pub onward : ℕ → List ℕ → Placed → Events
onward spare track placed = cond (is_end placed.event) (ending track placed) (behind spare track placed)

pub one_more :
    (spare : ℕ) (track : List ℕ) (placed : Placed)
    → followed track (behind spare track) (Some placed) ≡ joined placed (onward spare track placed)
unfolding followed
one_more spare track placed = by-test (is_end placed.event) (λ e. rw e) (λ e. rw e)

-- nothing is read yet
pub no-events : (rule : Rule) (track entry : List ℕ) → Going rule track entry entry 0 0 (events_from (suc (length track)) track 0 0)
unfolding filled events_of
no-events rule track entry =
    record {
      early = [];
      counted = refl;
      few = omega arith;
      written = rw (take-nil {A = ℕ} (length entry));
      strokes = refl;
      refusal = refl;
    }

-- what a verdict's number, the count and the buffer are in the end
abbrev pub Done : Rule → List ℕ → List ℕ → List ℕ → ℕ → ℕ → Type 0
Done rule track entry out count n =
    (n ≡ track_refusal rule track)
    × ((count ≡ length (track_strokes rule track)) × (out ≡ filled (track_strokes rule track) entry))

module _ (rule : Rule) (track entry out : List ℕ) (at count : ℕ) (rest : Events) (q : Going rule track entry out at count rest) where
  -- reading ends here
  pub stopped :
      (n : ℕ)
      → strokes_of rule rest.list ≡ []
      → n ≡ events_refusal rule rest
      → (n ≡ track_refusal rule track)
      × ((count ≡ length (track_strokes rule track)) × (out ≡ filled (track_strokes rule track) entry))
  stopped n none e =
      let all : track_strokes rule track ≡ q.early = q.strokes ∙ rw none (append-nil q.early) in
      (e ∙ sym q.refusal, (rw all q.counted, rw all q.written))

  pub further : (end : ℕ) → at ≤ end → Going rule track entry out end count rest
  further end l =
      record {
        early = q.early;
        counted = q.counted;
        few = omega (arith, q.few);
        written = q.written;
        strokes = q.strokes;
        refusal = q.refusal;
      }

  -- the same rest, said otherwise
  pub restated : (other : Events) → rest ≡ other → Going rule track entry out at count other
  restated other e = subst (λ r. Going rule track entry out at count r) e q

module _
    (rule : Rule)
    (track entry out : List ℕ)
    (at count : ℕ)
    (placed : Placed)
    (rest : Events)
    (q : Going rule track entry out at count (joined placed rest))
    (forward : at < placed.end)
  where
    pub outside : note_of rule placed.event ≡ Outside → Done rule track entry out count 17
    unfolding strokes_of any_outside
    outside e = stopped rule track entry out at count (joined placed rest) q 17 (rw (strokes_of, e)) (rw (any_outside, e))

    pub silent : note_of rule placed.event ≡ Silent → Going rule track entry out placed.end count rest
    unfolding strokes_of any_outside
    silent e =
        record {
          early = q.early;
          counted = q.counted;
          few = omega (arith, q.few);
          written = q.written;
          strokes = q.strokes ∙ rw (strokes_of, e);
          refusal = q.refusal ∙ rw (any_outside, e);
        }

    module _ (key : ℕ) (e : note_of rule placed.event ≡ Struck key) where
      struck : (later : List ℕ) → later ≡ filled (q.early ++ key ∷ []) entry → Going rule track entry later placed.end (count + 1) rest
      unfolding strokes_of any_outside
      struck later w =
          record {
            early = q.early ++ key ∷ [];
            counted = ap (λ n. n + 1) q.counted ∙ sym (length-append q.early (key ∷ []));
            few = omega (arith, q.few);
            written = w;
            strokes = q.strokes ∙ rw (strokes_of, e, append_snoc q.early key (strokes_of rule rest.list));
            refusal = q.refusal ∙ rw (any_outside, e);
          }

      pub struck-in : count < length out → Going rule track entry (set out count key) placed.end (count + 1) rest
      struck-in l =
          let long = ap length q.written ∙ length-filled q.early entry in
          let room : length q.early < length entry = omega (arith, l, q.counted, long) in
          struck (set out count key) (rw (q.written, q.counted) (filled_in q.early entry key room))

      pub struck-out : length out ≤ count → Going rule track entry out placed.end (count + 1) rest
      struck-out l =
          let long = ap length q.written ∙ length-filled q.early entry in
          let full : length entry ≤ length q.early = omega (arith, l, q.counted, long) in
          struck out (q.written ∙ filled-out q.early entry key full)

-- the rest, where an event's time was read
abbrev pub coming : ℕ → List ℕ → ℕ → ℕ → Events
coming spare track running at = followed track (behind spare track) (event_at track running at)

-- What is known at the head of the loop over events, and at an event behind its time: enough fuel is left.
pub record Head (rule : Rule) (track entry out : List ℕ) (running at count : ℕ) : Type 0 where
  pub spare : ℕ
  pub within : at ≤ length track
  pub enough : length track ≤ spare + at
  pub going : Going rule track entry out at count (events_from (suc spare) track running at)

pub record Here (rule : Rule) (track entry out : List ℕ) (running at count : ℕ) : Type 0 where
  pub spare : ℕ
  pub within : at ≤ length track
  pub enough : length track ≤ spare + at
  pub going : Going rule track entry out at count (coming spare track running at)

-- What is known once an event is read and gave its stroke, if it gave one.
pub record Gone (rule : Rule) (track entry out : List ℕ) (placed : Placed) (count : ℕ) : Type 0 where
  pub spare : ℕ
  pub within : placed.end ≤ length track
  pub enough : length track < spare + placed.end
  pub going : Going rule track entry out placed.end count (onward spare track placed)

pub head-none : (rule : Rule) (track entry : List ℕ) → Head rule track entry entry 0 0 0
head-none rule track entry =
    record { spare = length track; within = omega arith; enough = omega arith; going = no-events rule track entry }

module _ (rule : Rule) (track entry out : List ℕ) (running at count : ℕ) where
  module _ (q : Head rule track entry out running at count) where
    pub head-broken : None ≡ quantity_at track at → Done rule track entry out count 16
    unfolding events_from followed behind_time strokes_of any_outside
    head-broken e =
        stopped rule track entry out at count broken
        (restated rule track entry out at count _ q.going broken (rw (← e))) 16 refl refl

    pub head-here :
        (time : Quantity)
        → Some time ≡ quantity_at track at
        → at ≤ time.behind
        → time.behind ≤ length track
        → Here rule track entry out running time.behind count
    unfolding events_from behind_time
    head-here time e forward inside =
        record {
          spare = q.spare;
          within = inside;
          enough = omega (arith, q.enough);
          going =
              further rule track entry out at count _
              (restated rule track entry out at count _ q.going (coming q.spare track running time.behind) (rw (← e)))
              time.behind forward;
        }

  module _ (q : Here rule track entry out running at count) where
    pub here-broken : event_at track running at ≡ None → Done rule track entry out count 16
    unfolding followed strokes_of any_outside
    here-broken e =
        stopped rule track entry out at count broken
        (restated rule track entry out at count _ q.going broken (rw e)) 16 refl refl

    module _ (placed : Placed) (e : event_at track running at ≡ Some placed) where
      pub here-read : Going rule track entry out at count (joined placed (onward q.spare track placed))
      here-read =
          restated rule track entry out at count _ q.going (joined placed (onward q.spare track placed))
          (ap (followed track (behind q.spare track)) e ∙ one_more q.spare track placed)

      bounds : (at < placed.end) × (placed.end ≤ length track)
      bounds = event-bounds track running at placed e

      pub here-outside : note_of rule placed.event ≡ Outside → Done rule track entry out count 17
      here-outside n = outside rule track entry out at count placed _ here-read bounds.0 n

      gone :
          (later : List ℕ) (more : ℕ)
          → Going rule track entry later placed.end more (onward q.spare track placed)
          → Gone rule track entry later placed more
      gone later more g =
          record { spare = q.spare; within = bounds.1; enough = omega (arith, q.enough, bounds.0); going = g }

      pub here-silent : note_of rule placed.event ≡ Silent → Gone rule track entry out placed count
      here-silent n = gone out count (silent rule track entry out at count placed _ here-read bounds.0 n)

      module _ (key : ℕ) (n : note_of rule placed.event ≡ Struck key) where
        pub here-struck : count < length out → Gone rule track entry (set out count key) placed (count + 1)
        here-struck l =
            gone (set out count key) (count + 1) (struck-in rule track entry out at count placed _ here-read bounds.0 key n l)

        pub here-full : length out ≤ count → Gone rule track entry out placed (count + 1)
        here-full l = gone out (count + 1) (struck-out rule track entry out at count placed _ here-read bounds.0 key n l)

module _ (rule : Rule) (track entry out : List ℕ) (placed : Placed) (count : ℕ) (q : Gone rule track entry out placed count) where
  pub gone-end :
      is_end placed.event ≡ true
      → (n : ℕ)
      → n ≡ cond (is_bare placed.event && eqb placed.end (length track)) 0 16
      → Done rule track entry out count n
  unfolding strokes_of any_outside
  gone-end e n w =
      stopped rule track entry out placed.end count (ending track placed)
      (restated rule track entry out placed.end count _ q.going (ending track placed) (rw e)) n refl w

  pub gone-on : is_end placed.event ≡ false → Head rule track entry out (running_behind placed.event) placed.end count
  gone-on e =
      let s : q.spare ≡ suc (q.spare - 1) = omega (arith, q.within, q.enough) in
      record {
        spare = q.spare - 1;
        within = q.within;
        enough = omega (arith, q.enough);
        going =
            restated rule track entry out placed.end count _ q.going
            (events_from (suc (q.spare - 1)) track (running_behind placed.event) placed.end)
            (rw e (ap (λ n. events_from n track (running_behind placed.event) placed.end) s));
      }
