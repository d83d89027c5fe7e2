-- "Show that every ring, set and count for every passage, key and stream is the same under both values" (document 02, A.4).
-- Assumes nothing.
use Prim.Native.Nat.{ℕ, ◌+◌, ◌-◌, ◌≤◌, ◌<◌}
use mathlib.Core.Path.{◌≡◌, refl, sym, ◌∙◌, ap}
use mathlib.Core.Bool.{Bool, true}
use mathlib.Core.List.{List}
use mathlib.Core.Option.{some}
use native.Mathlib.Omega.{arith}
use lib.ListN.{length, drop, length-drop}
use lib.Seq.{length-take-le}
use Rattle.fingerprint.specs.declared.Key.{Key}
use Rattle.fingerprint.specs.Fingerprint.{key_fits, agree_under}
use Rattle.ladder.specs.Prefix.{block, prefix_length, prefix}
use Rattle.ladder.specs.Ladder.{tests_of, after, answer_at}
use Rattle.ladder.specs.Claim.{Collision}
use Rattle.ladder.proofs.Blocks.{block-length}
use Rattle.ladder.proofs.Levels.{length-within}
use Rattle.ladder.proofs.Verdicts.{SameVerdicts, after_same, answer-same}
use Rattle.signature.specs.declared.Signature.{Signature}
use Rattle.matcher.specs.declared.Matcher.{Matcher}
use Rattle.rack.specs.Rack.{name_count}
use Rattle.whole_run.specs.History.{History, bytes_of, answers_of}
use Rattle.whole_run.specs.Run.{CardOf, Call, Run}
use Rattle.whole_run.proofs.Theorem.{ladder-answers}
use Rattle.rack_run.specs.Calls as rack
use Rattle.rack_run.specs.Ledger.{Tenant, empty_ledger, ledger}
use Rattle.rack_run.specs.Names.{answers_under, up}
use Rattle.rack_run.proofs.Claims.{rack-ladder}
use Rattle.old_value.specs.OldValue.{agreed_under}
use Rattle.old_value.proofs.Prints.{same-verdict}

module _ (key : Key) (p stream : List ℕ) where
  -- A block of the stream that is compared with a tested beginning of the passage has its length.
  by-beginning :
      (i s : ℕ)
      → s + prefix_length (length p) i ≤ length stream
      → agreed_under key (block stream s (prefix_length (length p) i)) (prefix p i)
      ≡ agree_under key (block stream s (prefix_length (length p) i)) (prefix p i)
  by-beginning i s l =
      same-verdict key _ _
      (block-length stream s (prefix_length (length p) i) l ∙ sym (length-take-le _ p (length-within (length p) i)))

  verdicts : SameVerdicts (tests_of (agreed_under key) p) (tests_of (agree_under key) p) stream
  verdicts =
      record {
        size = refl;
        matches = λ i s k l. by-beginning i s l;
        alike = λ s u n a b. same-verdict key _ _ (block-length stream s n a ∙ sym (block-length stream u n b));
      }

  -- At every byte the ladder with unlimited lists gives the same ring, the same sets and the same count ..
  pub same_answer :
      (t : ℕ) → t ≤ length stream → answer_at (tests_of (agreed_under key) p) stream t ≡ answer_at (tests_of (agree_under key) p) stream t
  same_answer = answer-same _ _ stream verdicts

  -- .. and lists the same starts behind it.
  pub same-stages :
      (t : ℕ) → t ≤ length stream → after (tests_of (agreed_under key) p) stream t ≡ after (tests_of (agree_under key) p) stream t
  same-stages = after_same _ _ stream verdicts

  -- A block collides with a tested beginning under one value just where it does under the other: demand 3's exceptions are neither more nor
  -- fewer.
  carried :
      (f g : List ℕ → List ℕ → Bool)
      → ((i s : ℕ)
      → s + prefix_length (length p) i ≤ length stream
      → f (block stream s (prefix_length (length p) i)) (prefix p i) ≡ g (block stream s (prefix_length (length p) i)) (prefix p i))
      → (c : Collision f p stream)
      → (d : Collision g p stream) × (d.start ≡ c.start) × (d.index ≡ c.index)
  carried f g same c = (
    record {
      start = c.start;
      index = c.index;
      tested = c.tested;
      inside = c.inside;
      differs = c.differs;
      agrees = sym (same c.index c.start c.inside) ∙ c.agrees;
    },
    refl,
    refl,
  )

  pub collision-now :
      (c : Collision (agreed_under key) p stream)
      → (d : Collision (agree_under key) p stream) × (d.start ≡ c.start) × (d.index ≡ c.index)
  collision-now = carried (agreed_under key) (agree_under key) by-beginning

  pub collision-before :
      (c : Collision (agree_under key) p stream)
      → (d : Collision (agreed_under key) p stream) × (d.start ≡ c.start) × (d.index ≡ c.index)
  collision-before = carried (agree_under key) (agreed_under key) (λ i s l. sym (by-beginning i s l))

-- So a watch whose card was made from a passage, anywhere in a list of strokes, parkings and resumptions, has answered each byte of its
-- history as the ladder under the old value does.
pub watch-as-before :
    (key : Key) (p : List ℕ) (card : Signature)
    → CardOf key p card
    → {calls : List Call} {w : Matcher} {h : History}
    → Run card calls w h
    → (n : ℕ)
    → n ≤ length (bytes_of h)
    → answers_of h n ≡ answer_at (tests_of (agreed_under key) p) (bytes_of h) n
watch-as-before key p card c {h} run n l = ladder-answers key p card c run n l ∙ sym (same_answer key p (bytes_of h) n l)

-- And so has a rack, whatever list of calls was made on it, for each name that is in with such a card: at each byte since its count, as the
-- ladder under the old value does over the bytes since, its starts raised by that count.
module _ (key : Key) (p : List ℕ) (calls : List rack.Call) where
  abbrev history : List rack.Taken
  history = (rack.ran (rack.begun key) calls).history

  pub name-as-before :
      key_fits key ≡ true
      → rack.AllPossible calls
      → (name : ℕ)
      → name < name_count
      → (x : Tenant)
      → (ledger key empty_ledger calls).tenant name ≡ some x
      → CardOf key p x.card
      → (n : ℕ)
      → x.since < n
      → n ≤ length (rack.bytes_taken history)
      → answers_under name history n
      ≡ up x.since (answer_at (tests_of (agreed_under key) p) (drop x.since (rack.bytes_taken history)) (n - x.since))
  name-as-before fits possible name l x e c n later within =
      rack-ladder key p calls fits possible name l x e c n later within
      ∙ ap (up x.since)
      (sym (same_answer key p (drop x.since (rack.bytes_taken history)) (n - x.since)
      (omega (arith, length-drop x.since (rack.bytes_taken history)))))
