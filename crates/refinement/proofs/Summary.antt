-- What a watch stores of a list of starts changes as the list does: when the first is taken off, when one enters, when the history grows.
-- Assumes nothing.
use Prim.Native.Nat.{ℕ, suc, ◌+◌, ◌-◌, ◌≤◌}
use mathlib.Core.Path.{◌≡◌, refl, sym, ◌∙◌, ap, subst}
use mathlib.Core.Logic.{inl, inr}
use mathlib.Core.Bool.{cond}
use mathlib.Core.List.{List, [], ◌∷◌, ◌++◌, map}
use native.Mathlib.Omega.{arith}
use lib.ListN.{length, take, drop, length-append, length-drop}
use lib.Seq.{take-add, take-append-le, drop-append-le}
use borrow.Author.Tests.{ne_eqb, lt-ltb}
use Rattle.fingerprint.specs.declared.Key.{Key}
use Rattle.fingerprint.specs.declared.Fingerprint.{Fingerprint}
use Rattle.fingerprint.specs.Fingerprint.{fp, joined, joined_times, agree_under}
use Rattle.fingerprint.proofs.Laws.{same-eq, fp-join, fp-cut, fp-below, agree-self, agree-back, agree_on}
use Rattle.fingerprint.proofs.Joins.{times-first}
use Rattle.ladder.specs.Prefix.{block}
use Rattle.ladder.specs.Ladder as ladder
use Rattle.ladder.proofs.Blocks.{block-length}
use Rattle.ladder.proofs.Starts.{Has, Ascending, has_last}
use Rattle.ladder.proofs.Even.{Steps, Even}
use Rattle.ladder.proofs.Gaps.{Equivalence, Blocks, Alike}
use Rattle.signature.specs.declared.Signature.{Signature}
use Rattle.stage.specs.declared.Mark.{Mark}
use Rattle.stage.specs.declared.Gap.{Gap}
use Rattle.stage.specs.Stage.{same_gap, alone, gap_to, forward, taken_off, entered, sets_aside, all_but_last}
use Rattle.lists.proofs.Cases.{by-test}
use Rattle.stage.proofs.Fit.{stage-by}
use Rattle.stage.proofs.Follows.{Follows, follows-none, follows-alone}
use Rattle.refinement.specs.Refinement.{card_tests, mark_in, summary, read_set}

-- to have one print is an equivalence
pub by-print : (key : Key) → Equivalence (agree_under key)
by-print key = record { self = agree-self key; back = agree-back key; on = agree_on key }

last_snoc : (x : ℕ) (xs : List ℕ) (z : ℕ) → ladder.last_of x (xs ++ z ∷ []) ≡ z
unfolding ladder.last_of
last_snoc x [] z = refl
last_snoc x (y ∷ ys) z = last_snoc y ys z

module _ (key : Key) (h : List ℕ) where
  -- the block from one place to another, with its fingerprint
  abbrev pub gap_of : ℕ → ℕ → Gap
  gap_of a b = record { length = b - a; print = fp key (block h a (b - a)) }

  take-block : (a b : ℕ) → a ≤ b → take b h ≡ take a h ++ block h a (b - a)
  take-block a b l =
      let e : b ≡ a + (b - a) = omega arith in
      ap (λ (n : ℕ). take n h) e ∙ take-add a (b - a) h

  -- The print of a gap comes from the prints at its ends.
  pub gap-between : (a b : ℕ) → a ≤ b → b ≤ length h → gap_to key (mark_in key h a) (mark_in key h b) ≡ gap_of a b
  gap-between a b l r =
      let n : length (block h a (b - a)) ≡ b - a = block-length h a (b - a) (omega arith) in
      ap (λ (f : Fingerprint). record { length = b - a; print = f })
      (rw (take-block a b l) (rw n at (fp-cut key (take a h) (block h a (b - a)))))

  -- The print at the end of a gap comes from that at its begin and that of the gap.
  pub forward-to : (a b : ℕ) → a ≤ b → b ≤ length h → forward key (mark_in key h a) (gap_of a b) ≡ mark_in key h b
  forward-to a b l r =
      let n : length (block h a (b - a)) ≡ b - a = block-length h a (b - a) (omega arith) in
      let at : a + (b - a) ≡ b = omega arith in
      let print : joined key (fp key (take a h)) (fp key (block h a (b - a))) (b - a) ≡ fp key (take b h) =
      rw (take-block a b l) (sym (rw n at (fp-join key (take a h) (block h a (b - a)))))
      in
      λ i. record { at = at i; print = print i }

  pub summary-held : (x : ℕ) (xs : List ℕ) → (summary key h (x ∷ xs)).held ≡ suc (length xs)
  unfolding summary
  summary-held x [] = refl
  summary-held x (y ∷ more) = refl

  pub summary-first : (x : ℕ) (xs : List ℕ) → (summary key h (x ∷ xs)).first ≡ mark_in key h x
  unfolding summary
  summary-first x [] = refl
  summary-first x (y ∷ more) = refl

  -- The gap of the first two starts is that of the next two.
  next-gap : (x y z : ℕ) (zs : List ℕ) → Even (x ∷ y ∷ z ∷ zs) → Alike (agree_under key) h (x ∷ y ∷ z ∷ zs) → gap_of x y ≡ gap_of y z
  next-gap x y z zs e a =
      let d : y - x ≡ z - y = omega arith in
      let f : fp key (block h x (y - x)) ≡ fp key (block h y (z - y)) =
      subst (λ n. fp key (block h x (y - x)) ≡ fp key (block h y n)) d (sym (same-eq _ _ a.1.0))
      in
      λ i. record { length = d i; print = f i }

  -- Taking off the first start.
  pub summary-off :
      (x : ℕ) (xs : List ℕ)
      → Ascending (x ∷ xs)
      → ((s : ℕ) → Has (x ∷ xs) s → s ≤ length h)
      → Even (x ∷ xs)
      → Alike (agree_under key) h (x ∷ xs)
      → taken_off key (summary key h (x ∷ xs)) ≡ summary key h xs
  unfolding taken_off summary ladder.last_of
  summary-off x [] up low even like = refl
  summary-off x (y ∷ []) up low even like = refl
  summary-off x (y ∷ z ∷ zs) up low even like =
      let n : ℕ = suc (suc (suc (length zs))) in
      rw (ne_eqb n 1 (omega arith), ne_eqb n 2 (omega arith), taken_off)
      (stage-by (omega arith) (forward-to x y (omega (arith, up.0 y (inl refl))) (low y (inr (inl refl)))) refl
      (next-gap x y z zs even like))

  -- From one start to the last, by joins of the block that leads from each to the next.
  reaches :
      (d : ℕ) (e : List ℕ) (x : ℕ) (xs : List ℕ)
      → Steps d x xs
      → ((s : ℕ) → Has xs s → s ≤ length h)
      → Blocks (agree_under key) h d e x xs
      → joined_times key (length xs) (mark_in key h x).print (fp key e) d ≡ (mark_in key h (ladder.last_of x xs)).print
  unfolding joined_times ladder.last_of
  reaches d e x [] steps low like = refl
  reaches d e x (y ∷ ys) steps low like =
      let gap : y - x ≡ d = omega (arith, steps.0) in
      let next : joined key (mark_in key h x).print (fp key (block h x (y - x))) (y - x) ≡ (mark_in key h y).print =
      ap (λ (a : Mark). a.print) (forward-to x y (omega (arith, steps.0)) (low y (inl refl)))
      in
      times-first key (fp key e) d (length ys) (mark_in key h x).print
      ∙ ap (λ (f : Fingerprint). joined_times key (length ys) f (fp key e) d)
      (ap (λ (f : Fingerprint). joined key (mark_in key h x).print f d) (sym (same-eq _ _ like.0)) ∙ rw gap at next)
      ∙ reaches d e y ys steps.1 (λ s q. low s (inr q)) like.1

  -- F_last comes out of F_first by joins of the step print.
  pub summary-follows :
      (xs : List ℕ)
      → ((s : ℕ) → Has xs s → s ≤ length h)
      → Even xs
      → Alike (agree_under key) h xs
      → Follows key (summary key h xs)
  unfolding summary ladder.last_of
  summary-follows [] low even like = follows-none key
  summary-follows (x ∷ []) low even like = follows-alone key (mark_in key h x) (fp-below key (take x h))
  summary-follows (x ∷ y ∷ more) low even like =
      let joins : suc (suc (length more)) - 1 ≡ suc (length more) = omega arith in
      record {
        first = fp-below key (take x h);
        last = fp-below key (take (ladder.last_of y more) h);
        joins = rw joins (sym (reaches (y - x) (block h x (y - x)) x (y ∷ more) even (λ s q. low s (inr q)) like));
      }

-- A start enters behind those listed, or all of them but the last are set aside.
module _ (card : Signature) (h : List ℕ) (z : ℕ) (inside : z ≤ length h) where
  abbrev key : Key
  key = card.key

  abbrev entering : List ℕ → ladder.Entered
  entering xs = ladder.enter (card_tests card) h xs z

  -- whether the newcomer continues the progression
  same_step :
      (x y : ℕ) (more : List ℕ)
      → ladder.last_of y more ≤ z
      → same_gap (gap_to key (mark_in key h (ladder.last_of y more)) (mark_in key h z)) (gap_of key h x y)
      ≡ ladder.continues (card_tests card) h x y (ladder.last_of y more) z
  same_step x y more l = ap (λ (g : Gap). same_gap g (gap_of key h x y)) (gap-between key h (ladder.last_of y more) z l inside)

  pub summary-entered :
      (xs : List ℕ)
      → ((s : ℕ) → Has xs s → s ≤ z)
      → entered key (summary key h xs) (mark_in key h z) ≡ summary key h (entering xs).listed
  unfolding entered summary ladder.enter ladder.last_of
  summary-entered [] low = refl
  summary-entered (x ∷ []) low = stage-by refl refl refl (gap-between key h x z (low x (inl refl)) inside)
  summary-entered (x ∷ y ∷ more) low =
      let last : ladder.last_of y more ≤ z = low _ (inr (has_last y more)) in
      let n : ℕ = suc (suc (length more)) in
      by-test (ladder.continues (card_tests card) h x y (ladder.last_of y more) z)
      (λ e.
      rw (ne_eqb n 0 (omega arith), ne_eqb n 1 (omega arith), same_step x y more last, e, entered)
      (stage-by (simp length-append (omega arith)) refl (ap (mark_in key h) (sym (last_snoc y more z))) refl))
      (λ e.
      rw (ne_eqb n 0 (omega arith), ne_eqb n 1 (omega arith), same_step x y more last, e, entered)
      (stage-by refl refl refl (gap-between key h (ladder.last_of y more) z last inside)))

  pub summary-aside :
      (xs : List ℕ)
      → ((s : ℕ) → Has xs s → s ≤ z)
      → map read_set
      (cond (sets_aside key (summary key h xs) (mark_in key h z)) (all_but_last (summary key h xs) ∷ []) [])
      ≡ (entering xs).aside
  unfolding summary ladder.enter ladder.last_of
  summary-aside [] low = refl
  summary-aside (x ∷ []) low = refl
  summary-aside (x ∷ y ∷ more) low =
      let last : ladder.last_of y more ≤ z = low _ (inr (has_last y more)) in
      let many : suc (suc (length more)) - 1 ≡ suc (length more) = omega arith in
      rw (lt-ltb 1 (suc (suc (length more))) (omega arith), same_step x y more last)
      (by-test (ladder.continues (card_tests card) h x y (ladder.last_of y more) z)
      (λ e. rw e)
      (λ e. rw (e, many)))

-- With more bytes, what is stored of earlier places stays.
module _ (key : Key) (h u : List ℕ) where
  pub mark-grown : (s : ℕ) → s ≤ length h → mark_in key (h ++ u) s ≡ mark_in key h s
  mark-grown s l = ap (λ (x : List ℕ). record { at = s; print = fp key x }) (take-append-le s h u l)

  block-grown : (s n : ℕ) → s + n ≤ length h → block (h ++ u) s n ≡ block h s n
  block-grown s n l =
      rw (drop-append-le s h u (omega arith)) (take-append-le n (drop s h) u (simp length-drop (omega arith)))

  pub summary-grown : (xs : List ℕ) → ((s : ℕ) → Has xs s → s ≤ length h) → summary key (h ++ u) xs ≡ summary key h xs
  unfolding summary
  summary-grown [] low = refl
  summary-grown (x ∷ []) low = ap alone (mark-grown x (low x (inl refl)))
  summary-grown (x ∷ y ∷ more) low =
      let gap : block (h ++ u) x (y - x) ≡ block h x (y - x) =
      block-grown x (y - x) (omega (arith, low x (inl refl), low y (inr (inl refl))))
      in
      stage-by refl (mark-grown x (low x (inl refl))) (mark-grown _ (low _ (inr (has_last y more))))
      (ap (λ (b : List ℕ). record { length = y - x; print = fp key b }) gap)
