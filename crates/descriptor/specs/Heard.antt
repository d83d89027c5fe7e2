-- What a clause reads of a reader or a writer whose last error is kept, and what a call does to that error.
use Rattle.std.specs.Prelude.{◌≡◌, MatchResult, Option, Some, Result}
use Rattle.std.specs.declared.io.Error.{Error}
use Rattle.descriptor.specs.declared.heard.Heard.{Heard}

-- the reader or the writer itself
abbrev pub heard_inner : {T : Type 0} → Heard T → T
heard_inner h = h.inner

-- the error of the last call that failed
abbrev pub heard_error : {T : Type 0} → Heard T → Option Error
heard_error h = h.error

-- a call's error is kept, and a call that did not fail leaves the error that was kept
abbrev pub KeepsError : {T A : Type 0} → Heard T → Heard T → Result A Error → Type 0
KeepsError old new r = MatchResult r (λ _. heard_error new ≡ heard_error old) (λ e. heard_error new ≡ Some e)
