-- Fields, one behind another: how many bytes they have, where each stands, and that they are read back, whatever stands before and behind.
-- Assumes nothing.
use Prim.Native.Nat.{ℕ, zero, suc, ◌+◌, ◌≤◌, ◌<◌}
use mathlib.Core.Path.{◌≡◌, refl, sym, ◌∙◌, ap}
use mathlib.Core.List.{List, [], ◌∷◌, ◌++◌, append_assoc, append-nil}
use native.Mathlib.Nat.{not-suc-le-zero, add_assoc, add-zero}
use native.Mathlib.Omega.{arith}
use lib.ListN.{length, get_or, take, drop, length-append}
use lib.Seq.{take_at, drop_at}
use borrow.Author.Tests.{le-leb}
use Rattle.fields.specs.Fields.{Field, widths, values, size, little_endian, bytes_of, number_at, values_at, EachFits, stamped}
use Rattle.fields.specs.Calls.{put_at}
use Rattle.fields.proofs.Numbers.{length-number, number-back}

pub length-bytes : (fields : List Field) → length (bytes_of fields) ≡ size (widths fields)
unfolding bytes_of size
length-bytes [] = refl
length-bytes (f ∷ fields) =
    let first : List ℕ = little_endian f.width f.value in
    omega (arith, length-append first (bytes_of fields), length-number f.width f.value, length-bytes fields)

pub bytes-append : (a b : List Field) → bytes_of (a ++ b) ≡ bytes_of a ++ bytes_of b
unfolding bytes_of
bytes-append [] b = refl
bytes-append (f ∷ a) b =
    rw (bytes-append a b) (sym (append_assoc (little_endian f.width f.value) (bytes_of a) (bytes_of b)))

pub size-append : (a b : List ℕ) → size (a ++ b) ≡ size a + size b
unfolding size
size-append [] b = omega arith
size-append (w ∷ a) b = omega (arith, size-append a b)

-- Field i stands behind those before it.
pub values-place :
    (s : List ℕ) (at : ℕ) (ws : List ℕ) (i : ℕ)
    → i < length ws
    → get_or (values_at s at ws) i 0 ≡ number_at s (at + size (take i ws)) (get_or ws i 0)
unfolding values_at size
values-place s at [] i l = absurd (not-suc-le-zero l)
values-place s at (w ∷ ws) zero l = rw add-zero
values-place s at (w ∷ ws) (suc i) l = rw (← add_assoc) (values-place s (at + w) ws i (omega arith))

-- Fields behind fields: their values, and those of a part.
pub values-append :
    (s : List ℕ) (at : ℕ) (a b : List ℕ) → values_at s at (a ++ b) ≡ values_at s at a ++ values_at s (at + size a) b
unfolding values_at size
values-append s at [] b = rw add-zero
values-append s at (w ∷ a) b = rw (values-append s (at + w) a b, add_assoc)

length-values : (s : List ℕ) (at : ℕ) (ws : List ℕ) → length (values_at s at ws) ≡ length ws
unfolding values_at
length-values s at [] = refl
length-values s at (w ∷ ws) = ap suc (length-values s (at + w) ws)

pub part_of : {A : Type 0} (a b c : List A) (i n : ℕ) → length a ≡ i → length b ≡ n → take n (drop i (a ++ (b ++ c))) ≡ b
part_of a b c i n ea eb = rw (drop_at a (b ++ c) i ea) (take_at b c n eb)

pub values-part :
    (s : List ℕ) (at : ℕ) (a b c : List ℕ) (i n : ℕ)
    → length a ≡ i
    → length b ≡ n
    → take n (drop i (values_at s at (a ++ (b ++ c)))) ≡ values_at s (at + size a) b
values-part s at a b c i n ea eb =
    rw (values-append s at a (b ++ c), values-append s (at + size a) b c)
    (part_of (values_at s at a) (values_at s (at + size a) b) (values_at s (at + size a + size b) c) i n
    (length-values s at a ∙ ea)
    (length-values s (at + size a) b ∙ eb))

pub fit_append : (a b : List Field) → EachFits a → EachFits b → EachFits (a ++ b)
fit_append [] b fa fb = fb
fit_append (f ∷ a) b fa fb = (fa.0, fit_append a b fa.1 fb)

-- Fields whose values fit are read back behind any front, whatever stands behind them.
pub fields_back :
    (front : List ℕ) (fields : List Field) (tail : List ℕ)
    → EachFits fields
    → values_at (front ++ (bytes_of fields ++ tail)) (length front) (widths fields) ≡ values fields
unfolding values_at bytes_of
fields_back front [] tail fit = refl
fields_back front (f ∷ fields) tail fit =
    let first : List ℕ = little_endian f.width f.value in
    let place : length (front ++ first) ≡ length front + f.width =
    length-append front first ∙ ap (λ (n : ℕ). length front + n) (length-number f.width f.value)
    in
    let rest : List ℕ = bytes_of fields ++ tail in
    let same : bytes_of (f ∷ fields) ++ tail ≡ first ++ rest = append_assoc first (bytes_of fields) tail in
    let next : values_at (front ++ (first ++ rest)) (length front + f.width) (widths fields) ≡ values fields =
    rw (place, append_assoc) at (fields_back (front ++ first) fields tail fit.1)
    in
    ap (λ (s : List ℕ). values_at (front ++ s) (length front) (widths (f ∷ fields))) same
    ∙ rw (number-back front f.width f.value rest fit.0) (ap (λ (l : List ℕ). f.value ∷ l) next)

-- A field is written where there is room for it.
pub put-field :
    (s : List ℕ) (at w n : ℕ) → at + w ≤ length s → put_at s at w n ≡ stamped s at (record { width = w; value = n } ∷ [])
unfolding put_at bytes_of
put-field s at w n h = rw (le-leb (at + w) (length s) h, append-nil)
