-- `checkpoint_save::save` meets its contract: its tests are the definition's, and the record is written whole.
use Prim.Native.Nat.{ℕ, ◌+◌}
use mathlib.Core.Path.{◌≡◌, refl, sym, ◌∙◌, ap}
use mathlib.Core.Bool.{true}
use native.Mathlib.Omega.{arith}
use Rattle.ladder.proofs.Levels.{levels-bound}
use Rattle.matcher.proofs.Sound.{sound, card-of}
use Rattle.matcher.specs.Matcher.{matcher_fits}
use Rattle.checkpoint_format.specs.Layout.{checkpoint_length, checkpoint_record}
use Rattle.checkpoint_format.specs.Calls.{can_say}
use Rattle.checkpoint_save.specs.Calls.{watch_judged}
use Rattle.record.proofs.Writing.{put-no-room, put_whole}
use Rattle.checkpoint_format.proofs.Sizes.{checkpoint-size, checkpoint-whole}
use Rattle.checkpoint_save.proofs.save.Goals as goal

pub returns-then-buf-size : goal.returns-then-buf-size
returns-then-buf-size c =
    let a = c.args in
    let w = a.matcher in
    let f = a.format in
    let good : matcher_fits w ≡ true = sym c.fits.ensures ∙ c.if-not-fits.false in
    let said : can_say f w.now.at ≡ true = sym c.can_say.ensures ∙ c.if-not-can_say.false in
    let size = c.checkpoint_size-size.ensures ∙ ap (λ (k : ℕ). checkpoint_length f k + 4) c.levels-k.ensures in
    let refused =
    put-no-room (watch_judged f w) (checkpoint_record f w) a.buf.now (rw (good, said)) (omega (arith, checkpoint-size f w)) refl refl
    in
    record { verdict = refused.0; used = tt; buffer = refused.1.1 }

pub put_checkpoint-requires : goal.put_checkpoint-requires
put_checkpoint-requires c =
    let w = c.args.matcher in
    let good : matcher_fits w ≡ true = sym c.fits.ensures ∙ c.if-not-fits.false in
    omega (arith, checkpoint-whole c.args.format c.levels-k.result, levels-bound w.signature.length (card-of (sound w good)).short)

pub returns : goal.returns
returns c =
    let a = c.args in
    let w = a.matcher in
    let f = a.format in
    let good : matcher_fits w ≡ true = sym c.fits.ensures ∙ c.if-not-fits.false in
    let said : can_say f w.now.at ≡ true = sym c.can_say.ensures ∙ c.if-not-can_say.false in
    let size = c.checkpoint_size-size.ensures ∙ ap (λ (k : ℕ). checkpoint_length f k + 4) c.levels-k.ensures in
    let whole = checkpoint-size f w in
    let saved =
    put_whole (watch_judged f w) (checkpoint_record f w) a.buf.now _ _ (rw (good, said)) (omega arith) (omega arith)
    c.put_checkpoint.ensures
    in
    record { verdict = saved.0; used = saved.1.0; buffer = saved.1.1 }
