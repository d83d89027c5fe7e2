-- Whole lists of calls (document 01, "Whole runs"), in terms of the definitions that the calls' contracts cite.
use Rattle.std.specs.Prelude.{ℕ, ◌<◌, ◌≡◌, List, [], ◌∷◌, ◌++◌, length, take, drop}
use Rattle.fingerprint.specs.declared.Key.{Key}
use Rattle.signature.specs.declared.Signature.{Signature}
use Rattle.signature.specs.Made.{Made}
use Rattle.matcher.specs.declared.Matcher.{Matcher}
use Rattle.matcher.specs.Matcher.{fresh_refusal, fresh}
use Rattle.matcher.specs.Stroke.{stroke_refusal, stroke_answer, after_stroke}
use Rattle.checkpoint_format.specs.declared.Format.{Format}
use Rattle.card_record.specs.Calls.{write_refusal, write_used, write_buffer, read_refusal, read_signature}
use Rattle.checkpoint_save.specs.Calls.{save_refusal, save_used, save_buffer, behind_refusal, behind_buffer}
use Rattle.checkpoint_restore.specs.Calls.{restore_refusal, restored_matcher}
use Rattle.whole_run.specs.History.{History}

-- A buffer begins with these bytes.
abbrev pub BeginsWith : List ℕ → List ℕ → Type 0
BeginsWith bytes buffer = take (length bytes) buffer ≡ bytes

-- "A card is made from a passage if the maker .. gave this card .. The same card read from its record counts too": from a buffer that
-- begins with the bytes that writing the card filled the front of another with.
pub data CardOf (key : Key) (p : List ℕ) : Signature → Type 0 where
  made : {card : Signature} → Made key p card → CardOf key p card
  read_back :
      {card : Signature}
      → CardOf key p card
      → (lent : List ℕ)
      → write_refusal card lent ≡ 0
      → (buffer : List ℕ)
      → BeginsWith (take (write_used card lent) (write_buffer card lent)) buffer
      → read_refusal buffer ≡ 0
      → CardOf key p (read_signature buffer)

-- "A stroke brings any byte, to the core or the thin entry": the contracts of both cite the same definitions.
pub data Door : Type 0 where
  core : Door
  thin : Door

-- The calls of a list. "Writing a narrow record is a parking too" (document 02, A.5): a parking writes either record.
pub data Call : Type 0 where
  stroke : Door → ℕ → Call
  park : Format → List ℕ → Call
  park-behind : Format → List ℕ → ℕ → Call
  resume : Signature → List ℕ → Call

mutual
  -- A list of calls that starts with the fresh watch of the card stands at this watch, with this history. "Each stroke and parking gets the
  -- watch that the call before it handed back or left, at first the fresh one."
  pub data Run (card : Signature) : List Call → Matcher → History → Type 0 where
    -- "A fresh watch has an empty one."
    starts : fresh_refusal card ≡ 0 → Run card [] (fresh card) []
    -- "A stroke taken adds its byte and answer."
    takes :
        {calls : List Call} {w : Matcher} {h : History} (door : Door) (byte : ℕ)
        → byte < 256
        → Run card calls w h
        → stroke_refusal w ≡ 0
        → Run card
        (calls ++ stroke door byte ∷ [])
        (after_stroke w byte)
        (h ++ record { byte = byte; answer = stroke_answer w byte } ∷ [])
    -- "A parking or a refused call leaves it as it was"; "nothing else changes" the history.
    refuses-stroke :
        {calls : List Call} {w : Matcher} {h : History} (door : Door) (byte : ℕ)
        → Run card calls w h
        → (stroke_refusal w ≡ 0 → ⊥)
        → Run card (calls ++ stroke door byte ∷ []) (after_stroke w byte) h
    -- "A parking is lent any buffer", and may be refused.
    parks :
        {calls : List Call} {w : Matcher} {h : History} (f : Format) (lent : List ℕ)
        → Run card calls w h
        → Run card (calls ++ park f lent ∷ []) w h
    parks-behind :
        {calls : List Call} {w : Matcher} {h : History} (f : Format) (lent : List ℕ) (used : ℕ)
        → Run card calls w h
        → Run card (calls ++ park-behind f lent used ∷ []) w h
    -- "A resumption is any that is refused, or one under that card from a buffer that begins with a record, unaltered, that a parking wrote
    -- earlier, in this list or in another such list for that card"; "a resumption puts the parked watch in its place"; "a record has the
    -- history of its watch at the parking, and resuming it makes that the watch's history".
    resumes :
        {calls : List Call} {w : Matcher} {h : History} {bytes : List ℕ} {parked : History} (buffer : List ℕ)
        → Run card calls w h
        → Wrote card bytes parked
        → BeginsWith bytes buffer
        → restore_refusal card buffer ≡ 0
        → Run card (calls ++ resume card buffer ∷ []) (restored_matcher card buffer) parked
    refuses-resumption :
        {calls : List Call} {w : Matcher} {h : History} (other : Signature) (buffer : List ℕ)
        → Run card calls w h
        → (restore_refusal other buffer ≡ 0 → ⊥)
        → Run card (calls ++ resume other buffer ∷ []) w h

  -- A parking in some such list for the card wrote this record, with this history: the front of the part lent to it.
  pub data Wrote (card : Signature) : List ℕ → History → Type 0 where
    parked :
        {calls : List Call} {w : Matcher} {h : History} (f : Format) (lent : List ℕ)
        → Run card calls w h
        → save_refusal f w lent ≡ 0
        → Wrote card (take (save_used f w lent) (save_buffer f w lent)) h
    parked-behind :
        {calls : List Call} {w : Matcher} {h : History} (f : Format) (lent : List ℕ) (used : ℕ)
        → Run card calls w h
        → behind_refusal f w lent used ≡ 0
        → Wrote card (take (save_used f w (drop used lent)) (drop used (behind_buffer f w lent used))) h
