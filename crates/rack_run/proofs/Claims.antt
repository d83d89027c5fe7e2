-- Each name of a rack whose card was made from a passage: demand 3 of the starts since it was put in, and the ladder's own answers.
-- Assumes nothing.
use Prim.Native.Nat.{ℕ, zero, suc, ◌+◌, ◌-◌, ◌≤◌, ◌<◌}
use mathlib.Core.Path.{◌≡◌, refl, sym, ◌∙◌, ap}
use mathlib.Core.Bool.{true}
use mathlib.Core.List.{List, [], ◌∷◌, ◌++◌, map, map-append, append-nil, append_assoc}
use mathlib.Core.Option.{some}
use native.Mathlib.Omega.{arith}
use lib.Dec.{eqb}
use lib.ListN.{length, get_or, drop, length-drop, length-map}
use lib.Seq.{get_or-drop}
use Rattle.fingerprint.specs.declared.Key.{Key}
use Rattle.fingerprint.specs.Fingerprint.{key_fits, agree_under}
use Rattle.ladder.specs.Ladder.{answer_at}
use Rattle.ladder.specs.Claim.{Claim}
use Rattle.lists.specs.Lists.{Bytes}
use Rattle.lists.proofs.Cases.{by-test}
use Rattle.signature.specs.declared.Signature.{Signature}
use Rattle.matcher.specs.declared.Matcher.{Matcher}
use Rattle.walk.specs.declared.Answer.{Answer}
use Rattle.matcher.specs.Matcher.{fresh}
use Rattle.walk.specs.Walk.{no_answer}
use Rattle.matcher.specs.Stroke.{stroke_answer, after_stroke}
use Rattle.refinement.specs.Refinement.{passage_tests, read_answer}
use Rattle.raising.specs.Raised.{raised_answer}
use Rattle.rack.specs.Rack.{name_count, rack_stroke_refusal, no_reports}
use Rattle.whole_run.specs.History as alone
use Rattle.whole_run.specs.Run as run
use Rattle.whole_run.specs.Strokes.{strokes, struck}
use Rattle.whole_run.proofs.Cards.{card-of}
use Rattle.whole_run.proofs.Resuming.{fresh-accepted}
use Rattle.whole_run.proofs.Theorem.{whole_run, ladder-answers}
use Rattle.rack_run.specs.Calls.{Call, put-in, take_out, stroke, Possible, AllPossible}
use Rattle.rack_run.specs.Calls.{Taken, Standing, after, begun, ran, bytes_taken, said_under}
use Rattle.rack_run.specs.Ledger.{Tenant, empty_ledger, ledger, watch_after, answers_to, Accepts}
use Rattle.rack_run.specs.Statement.{Own}
use Rattle.rack_run.specs.Names.{first_of, answers_under, up, ClaimSince}
use Rattle.rack_run.proofs.Theorem.{rack-run}
use Rattle.rack_run.proofs.Raise.{read-raised, claim-since}

-- The strokes of bytes that a watch accepts, from where a list of its calls stands.
all-taken :
    (card : Signature) (calls : List run.Call) (w : Matcher) (h : alone.History) (bytes : List ℕ)
    → Bytes bytes
    → Accepts w bytes
    → run.Run card calls w h
    → run.Run card (calls ++ strokes bytes) (watch_after w bytes) (h ++ struck w bytes)
unfolding Accepts watch_after
all-taken card calls w h [] all a r = rw (append-nil calls, append-nil h) r
all-taken card calls w h (byte ∷ bytes) all a r =
    let x : alone.Taken = record { byte = byte; answer = stroke_answer w byte } in
    let next = run.takes run.core byte (all 0 (omega arith)) r a.0 in
    let more = all-taken card (calls ++ run.stroke run.core byte ∷ []) (after_stroke w byte) (h ++ x ∷ []) bytes
    (λ i l. all (suc i) (omega arith)) a.1 next in
    rw (
      append_assoc calls (run.stroke run.core byte ∷ []) (strokes bytes),
      append_assoc h (x ∷ []) (struck (after_stroke w byte) bytes),
    ) at more

struck-bytes : (w : Matcher) (bytes : List ℕ) → alone.bytes_of (struck w bytes) ≡ bytes
struck-bytes w [] = refl
struck-bytes w (byte ∷ bytes) = ap (λ (l : List ℕ). byte ∷ l) (struck-bytes (after_stroke w byte) bytes)

struck-answers :
    (w : Matcher) (bytes : List ℕ) (n : ℕ)
    → (get_or (struck w bytes) n (record { byte = 0; answer = no_answer })).answer ≡ get_or (answers_to w bytes) n no_answer
unfolding answers_to
struck-answers w [] n = refl
struck-answers w (byte ∷ bytes) zero = refl
struck-answers w (byte ∷ bytes) (suc n) = struck-answers (after_stroke w byte) bytes n

-- A watch of its own: demand 3, and that its answers are the ladder's.
module _
    (key : Key)
    (p : List ℕ)
    (card : Signature)
    (bytes : List ℕ)
    (c : run.CardOf key p card)
    (all : Bytes bytes)
    (a : Accepts (fresh card) bytes)
  where
    abbrev lone : alone.History
    lone = struck (fresh card) bytes

    lone-run : run.Run card (strokes bytes) (watch_after (fresh card) bytes) lone
    lone-run = all-taken card [] (fresh card) [] bytes all a (run.starts (fresh-accepted c))

    lone-claim : Claim (agree_under key) p bytes (alone.answers_of lone)
    lone-claim = rw (struck-bytes (fresh card) bytes) at (whole_run key p card c lone-run)

    lone-ladder : (n : ℕ) → n ≤ length bytes → alone.answers_of lone n ≡ answer_at (passage_tests key p) bytes n
    lone-ladder = rw (struck-bytes (fresh card) bytes) at (ladder-answers key p card c lone-run)

-- Lists that two functions take to one list, place by place.
same_place :
    {A B C : Type 0} (f : A → C) (g : B → C) (xs : List A) (ys : List B)
    → map f xs ≡ map g ys
    → (n : ℕ) (x : A) (y : B)
    → n < length xs
    → f (get_or xs n x) ≡ g (get_or ys n y)
same_place f g [] ys e n x y l = absurd (omega arith)
same_place f g (a ∷ xs) [] e n x y l = absurd cc
same_place f g (a ∷ xs) (b ∷ ys) e zero x y l = cc
same_place f g (a ∷ xs) (b ∷ ys) e (suc n) x y l = same_place f g xs ys (cc) n x y (omega arith)

-- The answers under a name since its card was put in are those of a watch of its own, raised.
module _ (name : ℕ) (x : Tenant) (s : Standing) (own : Own name x s) where
  abbrev since-bytes : List ℕ
  since-bytes = drop x.since (bytes_taken s.history)

  abbrev lone-answers : List Answer
  lone-answers = answers_to (fresh x.card) since-bytes

  said-since :
      (n : ℕ)
      → x.since + n < length s.history
      → said_under name (get_or s.history (x.since + n) (record { byte = 0; reports = no_reports }))
      ≡ raised_answer x.since (get_or lone-answers n no_answer) ∷ []
  said-since n l =
      ap (said_under name) (sym (get_or-drop x.since s.history n _))
      ∙ same_place (said_under name) (λ a. raised_answer x.since a ∷ []) (drop x.since s.history) lone-answers
      own.answers n _ no_answer (omega (arith, length-drop x.since s.history))

  answers-since :
      (n : ℕ)
      → x.since < n
      → n ≤ length (bytes_taken s.history)
      → answers_under name s.history n ≡ up x.since (alone.answers_of (struck (fresh x.card) since-bytes) (n - x.since))
  answers-since zero l h = absurd (omega arith)
  answers-since (suc n) l h =
      let k : ℕ = n - x.since in
      let here : x.since + k ≡ n = omega arith in
      let there : suc n - x.since ≡ suc k = omega arith in
      let inside : x.since + k < length s.history = omega (arith, length-map s.history (λ (t : Taken). t.byte)) in
      rw there
      (ap (λ (l : List Answer). read_answer (first_of l)) (rw here at (said-since k inside))
      ∙ read-raised x.since (get_or lone-answers k no_answer)
      ∙ ap (λ (a : Answer). up x.since (read_answer a)) (sym (struck-answers (fresh x.card) since-bytes k)))

-- Wherever a name's reports since are a watch's own: demand 3, and the answers of the ladder over the bytes since, raised.
module _
    (key : Key)
    (p : List ℕ)
    (name : ℕ)
    (x : Tenant)
    (s : Standing)
    (c : run.CardOf key p x.card)
    (all : Bytes (bytes_taken s.history))
    (own : Own name x s)
  where
    abbrev bytes : List ℕ
    bytes = bytes_taken s.history

    bytes-since : Bytes (drop x.since bytes)
    bytes-since i l = rw (get_or-drop x.since bytes i 0) (all (x.since + i) (omega (arith, length-drop x.since bytes)))

    pub name-claim : ClaimSince (agree_under key) p bytes x.since (answers_under name s.history)
    name-claim =
        let inside : x.since ≤ length bytes = omega (arith, own.begun-by, length-map s.history (λ (t : Taken). t.byte)) in
        claim-since (agree_under key) p bytes x.since _ (answers_under name s.history) (card-of c).not-empty inside
        (answers-since name x s own)
        (lone-claim key p x.card (drop x.since bytes) c bytes-since own.accepts)

    pub name-ladder :
        (n : ℕ)
        → x.since < n
        → n ≤ length bytes
        → answers_under name s.history n ≡ up x.since (answer_at (passage_tests key p) (drop x.since bytes) (n - x.since))
    name-ladder n l h =
        answers-since name x s own n l h
        ∙ ap (up x.since)
        (lone-ladder key p x.card (drop x.since bytes) c bytes-since own.accepts (n - x.since)
        (omega (arith, length-drop x.since bytes)))

-- The bytes that possible calls bring are bytes.
bytes-more : (bytes : List ℕ) (byte : ℕ) → Bytes bytes → byte < 256 → Bytes (bytes ++ byte ∷ [])
bytes-more [] byte all b zero l = b
bytes-more [] byte all b (suc i) l = absurd (omega arith)
bytes-more (x ∷ bytes) byte all b zero l = all 0 (omega arith)
bytes-more (x ∷ bytes) byte all b (suc i) l = bytes-more bytes byte (λ j k. all (suc j) (omega arith)) b i (omega arith)

bytes_after :
    (s : Standing) (call : Call) → Possible call → Bytes (bytes_taken s.history) → Bytes (bytes_taken (after s call).history)
bytes_after s (put-in name card) l all = all
bytes_after s (take_out name) l all = all
bytes_after s (stroke byte) l all =
    by-test (eqb (rack_stroke_refusal s.rack) 0)
    (λ e. rw (e, map-append) (bytes-more (bytes_taken s.history) byte all l))
    (λ e. rw e all)

pub bytes-ran :
    (s : Standing) (calls : List Call)
    → AllPossible calls
    → Bytes (bytes_taken s.history)
    → Bytes (bytes_taken (ran s calls).history)
unfolding ran
bytes-ran s [] l all = all
bytes-ran s (call ∷ calls) l all = bytes-ran (after s call) calls l.1 (bytes_after s call l.0 all)

-- After every list of calls on a rack that was begun with a key within limits, of a name that is in with a card made from a passage:
module _
    (key : Key)
    (p : List ℕ)
    (calls : List Call)
    (fits : key_fits key ≡ true)
    (possible : AllPossible calls)
    (name : ℕ)
    (l : name < name_count)
    (x : Tenant)
    (e : (ledger key empty_ledger calls).tenant name ≡ some x)
    (c : run.CardOf key p x.card)
  where
    abbrev history : List Taken
    history = (ran (begun key) calls).history

    all-bytes : Bytes (bytes_taken history)
    all-bytes = bytes-ran (begun key) calls possible (λ i k. absurd (omega arith))

    own : Own name x (ran (begun key) calls)
    own = (rack-run key fits calls possible).own name l x e

    -- Demand 3 for the name: "A card put in at count c is matched only for starts from c on", and of these starts and the bytes since c all
    -- that demand 3 says of a watch holds.
    pub rack-claim : ClaimSince (agree_under key) p (bytes_taken history) x.since (answers_under name history)
    rack-claim = name-claim key p name x (ran (begun key) calls) c all-bytes own

    -- The answer under the name at each byte since c is that of the ladder with unlimited lists over the passage and the bytes since c, its
    -- starts raised by c.
    pub rack-ladder :
        (n : ℕ)
        → x.since < n
        → n ≤ length (bytes_taken history)
        → answers_under name history n
        ≡ up x.since (answer_at (passage_tests key p) (drop x.since (bytes_taken history)) (n - x.since))
    rack-ladder = name-ladder key p name x (ran (begun key) calls) c all-bytes own
