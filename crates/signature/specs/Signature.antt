-- Cards and half-made cards, and when they misfit (document 01, "Card" and "Misfit").
use Rattle.std.specs.Prelude.{ℕ, Bool, true, cond, ◌&&◌, List, length, get_or, replicate, leb, eqb}
use Rattle.fingerprint.specs.declared.Key.{Key}
use Rattle.fingerprint.specs.declared.Fingerprint.{Fingerprint}
use Rattle.fingerprint.specs.Fingerprint.{key_fits, print_fits, same, empty, is_byte_print, fp, no_key}
use Rattle.ladder.specs.Prefix.{levels, prefix_length, prefix}
use Rattle.lists.specs.Lists.{every, tabulate}
use Rattle.signature.specs.declared.Signature.{Signature}
use Rattle.signature.specs.declared.Builder.{Builder}

-- "A passage has m bytes, 1 to 1048576."
abbrev pub max_length : ℕ
max_length = 1048576

abbrev pub length_fits : ℕ → Bool
length_fits m = leb 1 m && leb m max_length

-- Places for fingerprints: P_0 to P_20.
abbrev pub places : ℕ
places = 21

-- Whether n bytes of a pattern of m bytes reach P_i, i being no more than k.
abbrev pub reached : ℕ → ℕ → ℕ → Bool
reached m n i = leb i (levels m) && leb (prefix_length m i) n

-- A print after n of m bytes: one that is reached is below p; "a print not yet reached" and "a print past P_k" are 0.
abbrev pub place_fits : ℕ → ℕ → List Fingerprint → ℕ → Bool
place_fits m n prints i = cond (reached m n i) (print_fits (get_or prints i empty)) (same (get_or prints i empty) empty)

-- "A card's first fingerprint, once reached, is then 1 to 256, and any other a misfit" (document 02, A.4): the first byte reaches it.
abbrev pub first_fits : ℕ → Fingerprint → Bool
first_fits n f = cond (eqb n 0) true (is_byte_print f)

-- All prints after n of m bytes.
unfoldable pub prints_fit : ℕ → ℕ → List Fingerprint → Bool
prints_fit m n prints = first_fits n (get_or prints 0 empty) && every (place_fits m n prints) places

-- A card is no misfit: "m or r outside limits; a fingerprint not below p; .. a print past P_k .. that isn't all 0"; and its first
-- fingerprint is 1 to 256. All of its m bytes were taken.
unfoldable pub signature_fits : Signature → Bool
signature_fits s = length_fits s.length && key_fits s.key && prints_fit s.length s.length s.prints

-- A half-made card is no misfit: "more than m bytes or its prints are not below p, or a print not yet reached is not 0, or its running
-- print is not 0 at 0 bytes"; and what holds of a card's m, r, first print and prints past P_k holds of it too.
unfoldable pub builder_fits : Builder → Bool
builder_fits b =
    length_fits b.length
    && key_fits b.key
    && leb b.taken b.length
    && print_fits b.print
    && cond (eqb b.taken 0) (same b.print empty) true
    && prints_fit b.length b.taken b.prints

-- A print once byte number n of m is taken, with which the running print is f: f is stored for the prefix that it completes.
abbrev pub stored_at : ℕ → ℕ → Fingerprint → List Fingerprint → ℕ → Fingerprint
stored_at m n f prints i = cond (leb i (levels m) && eqb (prefix_length m i) n) f (get_or prints i empty)

unfoldable pub stored : ℕ → ℕ → Fingerprint → List Fingerprint → List Fingerprint
stored m n f prints = tabulate (stored_at m n f prints) places

-- "The card holds m, r and the k + 1 fingerprints": the card of a pattern under a key.
unfoldable pub signature_of : Key → List ℕ → Signature
signature_of key p =
    record {
      length = length p;
      key = key;
      prints = tabulate (λ i. cond (leb i (levels (length p))) (fp key (prefix p i)) empty) places;
    }

-- The card that holds nothing, a misfit.
abbrev pub no_signature : Signature
no_signature = record { length = 0; key = no_key; prints = replicate places empty }

-- A half-made card with no byte taken.
abbrev pub nothing_taken : ℕ → Key → Builder
nothing_taken m key = record { length = m; key = key; taken = 0; print = empty; prints = replicate places empty }

abbrev pub no_builder : Builder
no_builder = nothing_taken 0 no_key
