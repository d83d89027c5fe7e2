-- Bytes at which no start is ripe and which are not P_0 only move t and F_t on: several of them are passed over.
-- Assumes nothing.
use Prim.Native.Nat.{ℕ, zero, suc, ◌+◌, ◌-◌, ◌≤◌, ◌<◌}
use mathlib.Core.Path.{◌≡◌, refl, ◌∙◌, ap}
use mathlib.Core.Bool.{true, false, cond}
use mathlib.Core.List.{List, [], ◌∷◌, ◌++◌}
use native.Mathlib.Nat.{add-zero}
use native.Mathlib.Numerals.{add-one}
use native.Mathlib.Omega.{arith}
use lib.ListN.{length, drop, get_or, drop_of_length-le}
use lib.Seq.{drop-cons}
use borrow.Author.Tests.{le-leb}
use Rattle.fingerprint.specs.declared.Key.{Key}
use Rattle.fingerprint.specs.declared.Fingerprint.{Fingerprint}
use Rattle.fingerprint.specs.Fingerprint.{empty}
use Rattle.lists.proofs.Cases.{by-test}
use Rattle.stage.specs.declared.Mark.{Mark}
use Rattle.stage.specs.Stage.{max_taken}
use Rattle.walk.specs.Walk.{no_answer, compared}
use Rattle.stage.specs.Stage.{next_mark}
use Rattle.walk.specs.Quiet.{is_first}
use Rattle.matcher.specs.declared.Matcher.{Matcher}
use Rattle.matcher.specs.Matcher.{matcher_fits}
use Rattle.matcher.proofs.Quiet.{Calm, sooner, moved_on, quiet-taken, quiet-answer, quiet-after, quiet-fits}
use Rattle.notes.specs.Notes.{note_room}
use Rattle.notes.proofs.Noting.{silent-notes}
use Rattle.scanner.specs.Scan.{Scanned, onward, scanned}
use Rattle.scanner.specs.Skip.{skipped}

-- Passing over, at a place of the input: no byte may be passed over, or the next byte is P_0, or it is not.
module _ (key : Key) (first : Fingerprint) (input : List ℕ) (mark : Mark) where
  pub skipped-none : (n at : ℕ) → n ≡ 0 → skipped key first n mark (drop at input) ≡ mark
  unfolding skipped
  skipped-none n at e = rw e

  pub skipped-all : (n at : ℕ) → length input ≤ at → skipped key first n mark (drop at input) ≡ mark
  unfolding skipped
  skipped-all zero at l = refl
  skipped-all (suc n) at l = rw (drop_of_length-le input l)

  module _ (n at : ℕ) (some : 0 < n) (inside : at < length input) where
    skipped-next :
        skipped key first n mark (drop at input)
        ≡ cond (is_first first (get_or input at 0)) mark
        (skipped key first (n - 1) (next_mark key mark (get_or input at 0)) (drop (at + 1) input))
    unfolding skipped
    skipped-next =
        let more : n ≡ suc (n - 1) = omega arith in
        ap (λ k. skipped key first k mark (drop at input)) more ∙ rw (drop-cons input at 0 inside, add-one at)

    pub skipped-stop : is_first first (get_or input at 0) ≡ true → skipped key first n mark (drop at input) ≡ mark
    skipped-stop e = skipped-next ∙ rw e

    pub skipped-step :
        is_first first (get_or input at 0) ≡ false
        → skipped key first n mark (drop at input)
        ≡ skipped key first (n - 1) (next_mark key mark (get_or input at 0)) (drop (at + 1) input)
    skipped-step e = skipped-next ∙ rw e

-- where a run ends of which n bytes, with these notes and c comparisons, were taken before
abbrev pub ahead : List ℕ → ℕ → ℕ → Scanned → Scanned
ahead notes c n r =
    record {
      matcher = r.matcher;
      notes = notes ++ r.notes;
      comparisons = c + r.comparisons;
      taken = n + r.taken;
      refusal = r.refusal;
    }

pub scanned-by : {r s : Scanned} → r.matcher ≡ s.matcher → r.notes ≡ s.notes → r.comparisons ≡ s.comparisons → r.taken ≡ s.taken → r.refusal ≡ s.refusal → r ≡ s
scanned-by m a c t f = λ i. record { matcher = m i; notes = a i; comparisons = c i; taken = t i; refusal = f i }

-- What passing over bytes comes to, where there is room for notes behind the numbers used: so many bytes are taken, with a comparison each and no
-- note, and the watch has moved.
pub record Skips (size used : ℕ) (w : Matcher) (n : ℕ) (bytes : List ℕ) (now : Mark) : Type 0 where
  pub taken : ℕ
  pub most : taken ≤ n
  pub short : taken ≤ length bytes
  pub moves : now.at ≡ w.now.at + taken
  pub fits : matcher_fits (moved_on w now) ≡ true
  pub same : scanned size used w bytes ≡ ahead [] taken taken (scanned size used (moved_on w now) (drop taken bytes))

-- The byte b, at which no start is ripe, and which is not P_0.
module _ (w : Matcher) (b : ℕ) (fits : matcher_fits w ≡ true) (room : w.now.at < max_taken) (unripe : Calm w (suc w.now.at))
    (other : is_first (get_or w.signature.prints 0 empty) b ≡ false) where
  abbrev next : Mark
  next = next_mark w.signature.key w.now b

  module _ (size used : ℕ) (noted : used + note_room ≤ size) where
    quiet-scanned : (bytes : List ℕ) → scanned size used w (b ∷ bytes) ≡ onward [] 1 (scanned size used (moved_on w next) bytes)
    unfolding scanned
    quiet-scanned bytes =
        rw (le-leb (used + note_room) size noted, quiet-taken w b fits room unripe other, quiet-answer w b fits room unripe other, quiet-after w b fits room unripe other, silent-notes (suc w.now.at) (compared no_answer) refl, add-zero)

    pub skip-one :
        (n : ℕ) (bytes : List ℕ) (now : Mark) → Skips size used (moved_on w next) n bytes now → Skips size used w (suc n) (b ∷ bytes) now
    skip-one n bytes now q =
        record {
          taken = suc q.taken;
          most = omega arith;
          short = omega arith;
          moves = omega arith;
          fits = q.fits;
          same = quiet-scanned bytes ∙ ap (onward [] 1) q.same ∙ scanned-by refl refl (omega arith) (omega arith) refl;
        }

pub no-skips : (size used : ℕ) (w : Matcher) (n : ℕ) (bytes : List ℕ) → matcher_fits w ≡ true → Skips size used w n bytes w.now
no-skips size used w n bytes fits =
    record {
      taken = 0;
      most = omega arith;
      short = omega arith;
      moves = omega arith;
      fits = fits;
      same = scanned-by refl refl (omega arith) (omega arith) refl;
    }

abbrev pub first : Matcher → Fingerprint
first w = get_or w.signature.prints 0 empty

-- Passing over at most n of the bytes, from a watch at which no start becomes ripe on the way.
module _ (size used : ℕ) (noted : used + note_room ≤ size) where
  abbrev SkipsAll : ℕ → List ℕ → Type 0
  SkipsAll n bytes =
      (w : Matcher)
      → matcher_fits w ≡ true
      → w.now.at + n ≤ max_taken
      → Calm w (w.now.at + n)
      → Skips size used w n bytes (skipped w.signature.key (first w) n w.now bytes)

  skips-more : (n b : ℕ) (bytes : List ℕ) → SkipsAll n bytes → SkipsAll (suc n) (b ∷ bytes)
  unfolding skipped
  skips-more n b bytes more w fits room unripe =
      by-test (is_first (first w) b)
      (λ e. rw e (no-skips size used w (suc n) (b ∷ bytes) fits))
      (λ e.
      let t : ℕ = w.now.at in
      let below : t < max_taken = omega arith in
      let soon : Calm w (suc t) = sooner w (omega arith) unripe in
      let later : Calm w (suc t + n) = sooner w (omega arith) unripe in
      rw e
      (skip-one w b fits below soon e size used noted n bytes _
      (more (moved_on w (next_mark w.signature.key w.now b)) (quiet-fits w b fits below soon e) (omega arith) later)))

  pub skips : (n : ℕ) (bytes : List ℕ) → SkipsAll n bytes
  unfolding skipped
  skips zero bytes = λ w fits room unripe. no-skips size used w zero bytes fits
  skips (suc n) [] = λ w fits room unripe. no-skips size used w (suc n) [] fits
  skips (suc n) (b ∷ bytes) = skips-more n b bytes (skips n bytes)
