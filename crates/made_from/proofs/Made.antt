-- A card made from a passage is the card of that passage, and every passage within the limits has one (document 01, "Whole runs").
use Prim.Native.Nat.{ℕ, zero, suc, ◌≤◌, ◌<◌}
use mathlib.Core.Path.{◌≡◌, refl, sym, ◌∙◌, subst}
use mathlib.Core.Bool.{true, cond}
use mathlib.Core.List.{List, [], ◌∷◌, ◌++◌}
use native.Mathlib.Decide.{dec_le}
use native.Mathlib.Omega.{arith}
use lib.ListN.{length, get_or, take, get_or-append}
use lib.Seq.{get_or_at, get_or-take, take-suc, take-length, length-take-le}
use lib.Dec.{eqb}
use borrow.Author.Tests.{le-leb, ne_eqb}
use Rattle.fingerprint.specs.declared.Key.{Key}
use Rattle.fingerprint.specs.Fingerprint.{key_fits, empty, fp, same, extended}
use Rattle.fingerprint.proofs.Laws.{same_self, below-fits, fp-below, fp-push}
use Rattle.signature.specs.declared.Signature.{Signature}
use Rattle.signature.specs.declared.Builder.{Builder}
use Rattle.signature.specs.Signature.{max_length, length_fits, builder_fits, signature_of}
use Rattle.signature.specs.Calls.{begin_refusal, begun, one_more}
use Rattle.signature.specs.Made.{Making, begins, takes, refuses-byte, asks-for-card, Made}
use Rattle.lists.specs.Lists.{Bytes}
use Rattle.made_from.specs.MadeFrom.{builder_of, MadeBuilder, MadeSignature}
use Rattle.signature.proofs.Card.{card-fits}
use Rattle.made_from.proofs.Calls.{length-limits, length-fits, begin-tells, begin-accepted, push-tells, push-accepted, push-takes, push-leaves, finish-accepted, finish-gives}
use Rattle.made_from.proofs.Prints.{length-snoc, no-prints, more-prints, all-prints, prints-fit}

-- The three steps of a half-made card: begun, with one byte more, and finished.
begun-is : (m : ℕ) (key : Key) → begin_refusal m key ≡ 0 → begun m key ≡ builder_of m key []
unfolding begun extended
begun-is m key e = rw (e, no-prints m key)

more-is :
    (m : ℕ) (key : Key) (bytes : List ℕ) (byte : ℕ)
    → one_more (builder_of m key bytes) byte ≡ builder_of m key (bytes ++ byte ∷ [])
more-is m key bytes byte = rw (length-snoc bytes byte, ← more-prints m key bytes byte, fp-push key bytes byte)

card-is :
    (key : Key) (p : List ℕ) (b : Builder)
    → b ≡ builder_of (length p) key p
    → record { length = b.length; key = b.key; prints = b.prints } ≡ signature_of key p
unfolding signature_of
card-is key p b e = rw (e, all-prints key p)

-- Such a half-made card is no misfit.
nothing-taken : (key : Key) (bytes : List ℕ) → cond (eqb (length bytes) 0) (same (fp key bytes) empty) true ≡ true
unfolding extended
nothing-taken key [] = same_self empty
nothing-taken key (b ∷ bytes) = rw (ne_eqb (length (b ∷ bytes)) 0 (λ e. omega arith))

module _ (m : ℕ) (key : Key) (length-ok : length_fits m ≡ true) (key-ok : key_fits key ≡ true) where
  builder-fits : (bytes : List ℕ) → Bytes bytes → length bytes ≤ m → builder_fits (builder_of m key bytes) ≡ true
  unfolding builder_fits
  builder-fits bytes all l =
      rw (
        length-ok,
        key-ok,
        le-leb (length bytes) m l,
        below-fits _ (fp-below key bytes),
        nothing-taken key bytes,
      )
      (prints-fit m key bytes (length-limits m length-ok).0 all)

  made-builder :
      (bytes : List ℕ) (b : Builder)
      → b ≡ builder_of m key bytes
      → Bytes bytes
      → length bytes ≤ m
      → MadeBuilder m key bytes b
  made-builder bytes b e all l =
      record {
        state = e;
        length-fits = length-ok;
        key_ok = key-ok;
        all-bytes = all;
        within = l;
        fits = rw e (builder-fits bytes all l);
      }

-- one byte more
bytes-snoc : (bytes : List ℕ) (byte : ℕ) → Bytes bytes → byte < 256 → Bytes (bytes ++ byte ∷ [])
bytes-snoc bytes byte all h i l =
    elim (dec_le (suc i) (length bytes)) [
      | yes a ↦ rw (get_or-append bytes (byte ∷ []) 0 i a) (all i a)
      | no a ↦ rw (get_or_at bytes byte [] 0 i (omega (arith, length-snoc bytes byte))) h
    ]

-- Wherever a list of the maker's calls stands, m, the key and the bytes taken fix the half-made card.
pub making-state : {m : ℕ} {key : Key} {bytes : List ℕ} {b : Builder} → Making m key bytes b → MadeBuilder m key bytes b
making-state {m} {key} (begins e) =
    let t = begin-tells m key e in
    made-builder m key t.0 t.1 [] (begun m key) (begun-is m key e) (λ i l. omega arith) (omega arith)
making-state {m} {key} (takes {bytes} {b} byte h d e) =
    let s = making-state d in
    made-builder m key s.length-fits s.key_ok (bytes ++ byte ∷ []) _
    (push-takes b byte e ∙ rw s.state (more-is m key bytes byte)) (bytes-snoc bytes byte s.all-bytes h)
    (rw (length-snoc bytes byte) (rw s.state at (push-tells b e)))
making-state (refuses-byte {bytes} {b} byte d n) = rw (push-leaves b byte n) (making-state d)
making-state (asks-for-card d) = making-state d

-- A card made from a passage is the passage's own, and no misfit.
pub made-card : {key : Key} {p : List ℕ} {card : Signature} → Made key p card → MadeSignature key p card
made-card {key} {p} {card} made =
    let s = making-state made.making in
    let e : card ≡ signature_of key p =
    sym made.given ∙ finish-gives made.builder made.accepted ∙ card-is key p made.builder s.state
    in
    let limits = length-limits (length p) s.length-fits in
    record {
      state = e;
      fits = rw e (card-fits key p limits.0 limits.1 s.key_ok s.all-bytes);
      not-empty = limits.0;
      not-overlong = limits.1;
      key_ok = s.key_ok;
      all-bytes = s.all-bytes;
    }

-- The other way: the maker can be led through the bytes of every passage within the limits.
bytes_take : (p : List ℕ) (n : ℕ) → n ≤ length p → Bytes p → Bytes (take n p)
bytes_take p n h all i l =
    let l' : i < n = rw (length-take-le n p h) at l in
    rw (get_or-take n p i 0 l') (all i (omega arith))

led :
    (key : Key) (p : List ℕ)
    → length_fits (length p) ≡ true
    → key_fits key ≡ true
    → Bytes p
    → (n : ℕ)
    → n ≤ length p
    → Making (length p) key (take n p) (builder_of (length p) key (take n p))
led key p h k all zero l =
    let e = begin-accepted (length p) key h k in
    subst (Making (length p) key []) (begun-is (length p) key e) (begins e)
led key p h k all (suc n) l =
    let b = builder_of (length p) key (take n p) in
    let size : length (take n p) ≡ n = length-take-le n p (omega arith) in
    let fits = builder-fits (length p) key h k (take n p) (bytes_take p n (omega arith) all) (omega arith) in
    let e = push-accepted b fits (omega arith) in
    rw (take-suc p n 0 l)
    (subst (Making (length p) key (take n p ++ get_or p n 0 ∷ []))
    (push-takes b (get_or p n 0) e ∙ more-is (length p) key (take n p) (get_or p n 0))
    (takes (get_or p n 0) (all n l) (led key p h k all n (omega arith)) e))

-- From every passage within the limits, under every key within them, its card is made.
pub makes-card :
    (key : Key) (p : List ℕ)
    → Bytes p
    → 1 ≤ length p
    → length p ≤ max_length
    → key_fits key ≡ true
    → Made key p (signature_of key p)
makes-card key p all low high k =
    let h = length-fits (length p) low high in
    let b = builder_of (length p) key p in
    let e = finish-accepted b (builder-fits (length p) key h k p all (omega arith)) (omega arith) in
    record {
      builder = b;
      making = rw (take-length p) at (led key p h k all (length p) (omega arith));
      accepted = e;
      given = finish-gives b e ∙ card-is key p b refl;
    }
