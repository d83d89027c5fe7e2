-- What one name is promised: demand 3 for the starts since its card was put in, and that other names alter only whether a card gets in
-- (document 02, A.1).
use Rattle.std.specs.Prelude.{ℕ, zero, suc, ◌+◌, ◌≤◌, ◌<◌, ◌≡◌, ◌⊎◌, Bool, true, false, cond, List, [], ◌∷◌, map, eqb, length, get_or, take, drop}
use Rattle.std.proofs.Math.Option
use Rattle.fingerprint.specs.declared.Key.{Key}
use Rattle.ladder.specs.Prefix.{levels}
use Rattle.ladder.specs.Ladder as ladder
use Rattle.ladder.specs.Claim.{Occurrence, Rings, SetsAside, starts_of, times, Collision}
use Rattle.walk.specs.declared.Answer.{Answer}
use Rattle.walk.specs.Walk.{no_answer}
use Rattle.refinement.specs.Refinement.{read_answer}
use Rattle.rack.specs.Rack.{no_reports, rack_reports}
use Rattle.rack_run.specs.Calls.{Call, put-in, take_out, stroke, Taken, Standing, refusal_of, after, under, said_under}
use Rattle.rack_run.specs.Ledger.{Ledger, full, noted}

-- The answer that a history has under a name at byte number n, counted from 1.
abbrev pub first_of : List Answer → Answer
first_of [] = no_answer
first_of (a ∷ more) = a

abbrev pub answers_under : ℕ → List Taken → ℕ → ladder.Answer
answers_under name h zero = read_answer no_answer
answers_under name h (suc n) = read_answer (first_of (said_under name (get_or h n (record { byte = 0; reports = no_reports }))))

-- The ladder's answer with its starts raised by c.
abbrev pub up_set : ℕ → ladder.Progression → ladder.Progression
up_set c x = record { first = c + x.first; step = x.step; many = x.many }

abbrev pub up : ℕ → ladder.Answer → ladder.Answer
up c a = record { ring = Option.map (λ s. c + s) a.ring; aside = map (up_set c) a.aside; comparisons = a.comparisons }

-- Demand 3 of the bytes behind the first c of a stream: what `Claim` (ladder/specs/Claim.antt) says, of the starts from c on, in the
-- stream's own count. `answers n` is the answer at byte number n of the stream.
pub record ClaimSince (agree : List ℕ → List ℕ → Bool) (p bytes : List ℕ) (c : ℕ) (answers : ℕ → ladder.Answer) : Type 0 where
  -- "A card put in at count c is matched only for starts from c on"
  pub rings-since : (s n : ℕ) → c < n → n ≤ length bytes → Rings (answers n) s → c ≤ s
  pub asides-since : (s n : ℕ) → c < n → n ≤ length bytes → SetsAside (answers n) s → c ≤ s
  pub found :
      (s : ℕ)
      → c ≤ s
      → Occurrence p bytes s
      → Rings (answers (s + length p)) s ⊎ ((n : ℕ) × (c < n) × (n < s + length p) × SetsAside (answers n) s)
  pub not-both :
      (s n n' : ℕ) → c < n → n ≤ length bytes → c < n' → n' ≤ length bytes → Rings (answers n) s → SetsAside (answers n') s → ⊥
  pub rung-once :
      (s n n' : ℕ) → c < n → n ≤ length bytes → c < n' → n' ≤ length bytes → Rings (answers n) s → Rings (answers n') s → n ≡ n'
  pub aside-once :
      (s n n' : ℕ)
      → c < n
      → n ≤ length bytes
      → c < n'
      → n' ≤ length bytes
      → SetsAside (answers n) s
      → SetsAside (answers n') s
      → n ≡ n'
  pub aside-in-one-set : (s n : ℕ) → c < n → n ≤ length bytes → times s (starts_of (answers n).aside) ≤ 1
  -- false rings and sets only with a collision in the bytes since c
  pub false-ring :
      (s n : ℕ)
      → c < n
      → n ≤ length bytes
      → Rings (answers n) s
      → (Occurrence p bytes s × (n ≡ s + length p) → ⊥)
      → Collision agree p (drop c (take n bytes))
  pub aside-collides :
      (n : ℕ) → c < n → n ≤ length bytes → ((answers n).aside ≡ [] → ⊥) → Collision agree p (drop c (take n bytes))
  -- "each name giving at most 1 + the number of its stages"
  pub ceiling : (n : ℕ) → c < n → n ≤ length bytes → (answers n).comparisons ≤ suc (levels (length p))

-- The calls that concern a name: those for it, and the strokes.
abbrev pub concerns : ℕ → Call → Bool
concerns name (put-in other card) = eqb other name
concerns name (take_out other) = eqb other name
concerns name (stroke byte) = true

-- What a list of calls holds for a name: these calls, in order, and for each putting in whether it met a full rack.
pub record Concern : Type 0 where
  pub call : Call
  pub met-full : Bool

abbrev pub meets : Ledger → Call → Bool
meets l (put-in name card) = full l
meets l (take_out name) = false
meets l (stroke byte) = false

unfoldable pub concerning : Key → ℕ → Ledger → List Call → List Concern
concerning key name l [] = []
concerning key name l (call ∷ calls) =
    let rest : List Concern = concerning key name (noted key l call) calls in
    cond (concerns name call) (record { call = call; met-full = meets l call } ∷ rest) rest

-- What a list of calls brings to a name: the verdict on each of these calls, and what the reports say under the name.
pub record Outcome : Type 0 where
  pub refusal : ℕ
  pub said : List Answer

abbrev pub saying_under : ℕ → Standing → Call → List Answer
saying_under name s (put-in other card) = []
saying_under name s (take_out other) = []
saying_under name s (stroke byte) =
    under name (take (rack_reports s.rack byte).many (rack_reports s.rack byte).reports)

unfoldable pub outcomes : ℕ → Standing → List Call → List Outcome
outcomes name s [] = []
outcomes name s (call ∷ calls) =
    let rest : List Outcome = outcomes name (after s call) calls in
    cond (concerns name call) (record { refusal = refusal_of s.rack call; said = saying_under name s call } ∷ rest) rest
