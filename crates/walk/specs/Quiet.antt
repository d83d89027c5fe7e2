-- Bytes that can change no stage: which they are.
use Rattle.std.specs.Prelude.{ℕ, suc, ◌+◌, ◌<◌, ◌≡◌, Bool}
use Rattle.fingerprint.specs.declared.Fingerprint.{Fingerprint}
use Rattle.fingerprint.specs.Fingerprint.{same, byte_print}
use Rattle.ladder.specs.Prefix.{prefix_length}
use Rattle.stage.specs.Stages.{Stages, stage_at}

-- Whether a byte is P_0, whose fingerprint is given.
abbrev pub is_first : Fingerprint → ℕ → Bool
is_first first byte = same first (byte_print byte)

-- No start of the stages below k becomes ripe up to t.
abbrev pub Unripe : ℕ → ℕ → ℕ → Stages → Type 0
Unripe k m t stages =
    (i : ℕ) → i < k → ((stage_at stages i).held ≡ 0 → ⊥) → t < (stage_at stages i).first.at + prefix_length m (suc i)
