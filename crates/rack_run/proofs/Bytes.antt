-- A watch that takes bytes one after another: one byte more behind them.
-- Assumes nothing.
use Prim.Native.Nat.{ℕ}
use mathlib.Core.Path.{◌≡◌, refl, ap}
use mathlib.Core.List.{List, [], ◌∷◌, ◌++◌}
use Rattle.matcher.specs.declared.Matcher.{Matcher}
use Rattle.walk.specs.declared.Answer.{Answer}
use Rattle.matcher.specs.Stroke.{stroke_refusal, stroke_answer, after_stroke}
use Rattle.rack_run.specs.Ledger.{watch_after, answers_to, Accepts}

pub watch-more : (w : Matcher) (bytes : List ℕ) (byte : ℕ) → watch_after w (bytes ++ byte ∷ []) ≡ after_stroke (watch_after w bytes) byte
unfolding watch_after
watch-more w [] byte = refl
watch-more w (b ∷ bytes) byte = watch-more (after_stroke w b) bytes byte

pub answers-more :
    (w : Matcher) (bytes : List ℕ) (byte : ℕ)
    → answers_to w (bytes ++ byte ∷ []) ≡ answers_to w bytes ++ stroke_answer (watch_after w bytes) byte ∷ []
unfolding watch_after answers_to
answers-more w [] byte = refl
answers-more w (b ∷ bytes) byte = ap (λ (r : List Answer). stroke_answer w b ∷ r) (answers-more (after_stroke w b) bytes byte)

pub accepts-more :
    (w : Matcher) (bytes : List ℕ) (byte : ℕ) → Accepts w bytes → stroke_refusal (watch_after w bytes) ≡ 0 → Accepts w (bytes ++ byte ∷ [])
unfolding watch_after Accepts
accepts-more w [] byte q e = (e, tt)
accepts-more w (b ∷ bytes) byte q e = (q.0, accepts-more (after_stroke w b) bytes byte q.1 e)
