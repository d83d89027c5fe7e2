-- Demand 3 of whole lists of calls, whatever the passage, the key and the list.
-- Assumes nothing.
use Prim.Native.Nat.{ℕ, suc, ◌≤◌}
use mathlib.Core.Path.{◌≡◌}
use mathlib.Core.List.{List}
use lib.ListN.{length}
use Rattle.fingerprint.specs.declared.Key.{Key}
use Rattle.fingerprint.specs.Fingerprint.{agree_under}
use Rattle.ladder.specs.Prefix.{levels}
use Rattle.ladder.specs.Ladder.{answer_at}
use Rattle.ladder.specs.Claim.{Claim}
use Rattle.signature.specs.declared.Signature.{Signature}
use Rattle.matcher.specs.declared.Matcher.{Matcher}
use Rattle.matcher.specs.Stroke.{stroke_answer}
use Rattle.matcher.proofs.Ceiling.{ceiling}
use Rattle.refinement.specs.Refinement.{passage_tests}
use Rattle.whole_run.specs.History.{History, bytes_of, answers_of}
use Rattle.whole_run.specs.Run.{CardOf, Call, Run, Wrote}
use Rattle.whole_run.proofs.Cards.{card-of}
use Rattle.whole_run.proofs.Tracks.{run-tracks, wrote-tracks}
use Rattle.whole_run.proofs.Claims.{answers-same, faithful-claim}

-- Demand 3: "Wherever it is cut, a passage isn't let by. Take any passage and key, and any list of strokes, parkings and resumptions,
-- refused ones included, that starts from a fresh watch whose card was made from that passage and resumes only records parked by such
-- watches of that card. After the list, over the watch's history, each true occurrence was rung at its last byte or set aside at an earlier
-- one, never both. A false ring was given, or a set was set aside, only if some block of the history up to that byte differs from a tested
-- beginning of the passage that has the same length and fingerprint. No byte, in such a list or at any other watch, has more comparisons in
-- its answer than 1 + the number of the watch's stages."
--
-- "What demand 3 says of a list is a single claim about the whole list": `Claim`, of the history where the list ends. How the bullets of
-- document 01, "Whole runs", stand in the definitions, which are those that the contracts of the calls cite:
-- - "A card is made from a passage if the maker .. gave this card .. refused calls in between count for nothing": `Made`, after a list of
--   the maker's calls, `Making`. "The same card read from its record counts too": `read_back` of `CardOf`.
-- - "The list starts with the fresh watch of that card": `starts` of `Run`. "A stroke brings any byte, to the core or the thin entry":
--   `takes` and `refuses-stroke`, by either `Door`. "A parking is lent any buffer": `parks` and `parks-behind`, refused or not, and of
--   either `Format`: "writing a narrow record is a parking too" (document 02, A.5). "A resumption is any that is refused":
--   `refuses-resumption`, under any card from any buffer; "or one under that card from a buffer that begins with a record, unaltered, that
--   a parking wrote earlier, in this list or in another such list for that card": `resumes`, from a buffer that `BeginsWith` bytes that
--   some list `Wrote`.
-- - "Each stroke and parking gets the watch that the call before it handed back or left, at first the fresh one": a `Run` goes on from the
--   watch w of the list before the call. "A parking or a refused call leaves it as it was; a resumption puts the parked watch in its
--   place": the watch at which each of them ends.
-- - "A history is the bytes taken, in order, each with the answer given at it": `History`. "A fresh watch has an empty one. A stroke taken
--   adds its byte and answer": `starts` and `takes`. "A record has the history of its watch at the parking, and resuming it makes that the
--   watch's history": `Wrote` has it and `resumes` ends with it. "Nothing else changes it": the other ways keep h. "If several parkings in
--   such lists for that card wrote the same record, the claim holds with the history of each": each is a `Wrote` of the record with its own
--   history, `resumes` goes on with any of them, and `wrote-claim` is the claim of each.
-- - "A block", "a true occurrence", "its last byte", "a ring is false", "a set .. sets aside": `block`, `Occurrence`, `found`, `false-ring`
--   and `starts_of`, in the ladder's definitions.
pub whole_run :
    (key : Key) (p : List ℕ) (card : Signature)
    → CardOf key p card
    → {calls : List Call} {w : Matcher} {h : History}
    → Run card calls w h
    → Claim (agree_under key) p (bytes_of h) (answers_of h)
whole_run key p card c run = faithful-claim (run-tracks c run).faithful (card-of c).not-empty

-- The claim holds with the history of each parking that wrote a record.
pub wrote-claim :
    (key : Key) (p : List ℕ) (card : Signature)
    → CardOf key p card
    → {bytes : List ℕ} {h : History}
    → Wrote card bytes h
    → Claim (agree_under key) p (bytes_of h) (answers_of h)
wrote-claim key p card c wrote = faithful-claim (wrote-tracks c wrote).faithful (card-of c).not-empty

-- The history's answer at each byte is that of the ladder with unlimited lists over the passage.
pub ladder-answers :
    (key : Key) (p : List ℕ) (card : Signature)
    → CardOf key p card
    → {calls : List Call} {w : Matcher} {h : History}
    → Run card calls w h
    → (n : ℕ)
    → n ≤ length (bytes_of h)
    → answers_of h n ≡ answer_at (passage_tests key p) (bytes_of h) n
ladder-answers key p card c run = answers-same (run-tracks c run).faithful

-- "No byte, in such a list or at any other watch, has more comparisons in its answer than 1 + the number of the watch's stages."
pub any-watch : (w : Matcher) (byte : ℕ) → (stroke_answer w byte).comparisons ≤ suc (levels w.signature.length)
any-watch = ceiling
