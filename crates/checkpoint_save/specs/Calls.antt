-- The calls that park a watch: the number of the refusal, 0 where the call is accepted, what is handed back, and the buffer as it is left
-- (document 01, "Records" and "The board's refusals").
use Rattle.std.specs.Prelude.{ℕ, ◌+◌, cond, List, ◌++◌, take, drop}
use Rattle.matcher.specs.declared.Matcher.{Matcher}
use Rattle.matcher.specs.Matcher.{matcher_fits}
use Rattle.record.specs.Calls.{put_refusal, put_used, put_buffer}
use Rattle.checkpoint_format.specs.Layout.{checkpoint_record}
use Rattle.checkpoint_format.specs.Calls.{can_say}
use Rattle.checkpoint_format.specs.declared.Format.{Format}

-- a watch is parked: "value handed in (10)", and "18 when a narrow record is wanted above that t, before 7"
abbrev pub watch_judged : Format → Matcher → ℕ
watch_judged f w = cond (matcher_fits w) (cond (can_say f w.now.at) 0 18) 10

abbrev pub save_refusal : Format → Matcher → List ℕ → ℕ
save_refusal f w entry = put_refusal (watch_judged f w) (checkpoint_record f w) entry

abbrev pub save_used : Format → Matcher → List ℕ → ℕ
save_used f w entry = put_used (watch_judged f w) (checkpoint_record f w) entry

abbrev pub save_buffer : Format → Matcher → List ℕ → List ℕ
save_buffer f w entry = put_buffer (watch_judged f w) (checkpoint_record f w) entry

-- "Several watches park one behind another, each written into the rest of the same buffer": the rest behind the used length, which is
-- empty where that is past the buffer's end. The used length grows by the record.
abbrev pub behind_refusal : Format → Matcher → List ℕ → ℕ → ℕ
behind_refusal f w entry used = save_refusal f w (drop used entry)

abbrev pub behind_used : Format → Matcher → List ℕ → ℕ → ℕ
behind_used f w entry used = used + save_used f w (drop used entry)

abbrev pub behind_buffer : Format → Matcher → List ℕ → ℕ → List ℕ
behind_buffer f w entry used = take used entry ++ save_buffer f w (drop used entry)
