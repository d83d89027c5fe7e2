-- What a watch that is no misfit says of its record: each value can be said in the bytes of its field.
-- Assumes nothing.
use Prim.Native.Nat.{ℕ, suc, ◌*◌, ◌^◌, ◌≤◌, ◌<◌}
use mathlib.Core.Path.{◌≡◌, sym, subst}
use mathlib.Core.Bool.{true}
use mathlib.Core.List.{◌++◌}
use native.Mathlib.Nat.{mul-le-mul, le_refl}
use native.Mathlib.Omega.{arith}
use borrow.Author.Tests.{leb-true}
use Rattle.fields.specs.Fields.{EachFits, gathered}
use Rattle.fields.proofs.Laws.{fit_append}
use Rattle.fields.proofs.Gathered.{fit-gathered}
use Rattle.fingerprint.specs.Fingerprint.{Below, empty}
use Rattle.fingerprint.proofs.Laws.{empty-below}
use Rattle.ladder.specs.Prefix.{levels}
use Rattle.ladder.proofs.Levels.{levels-bound, length-within}
use Rattle.signature.specs.Signature.{max_length}
use Rattle.stage.specs.declared.Mark.{Mark}
use Rattle.stage.specs.declared.Stage.{Stage}
use Rattle.matcher.specs.declared.Matcher.{Matcher}
use Rattle.stage.specs.Stage.{max_taken, max_count, origin, no_stage}
use Rattle.matcher.specs.Matcher.{matcher_fits}
use Rattle.stage.specs.Stage.{alone}
use Rattle.stage.specs.Stages.{stage_at}
use Rattle.stage.proofs.Fit.{Fit, idle, single, several}
use Rattle.matcher.proofs.Sound.{sound, card-of}
use Rattle.checkpoint_format.specs.declared.Format.{Format}
use Rattle.checkpoint_format.specs.declared.Format.TheVariants.{Narrow, Wide}
use Rattle.record.specs.Layout.{kind_width, record_fields, key_fields, print_fields}
use Rattle.checkpoint_format.specs.Layout.{place_width, checkpoint_kind, mark_fields, gap_fields, stage_fields, stage_fields_of, checkpoint_body, last_print}
use Rattle.checkpoint_format.specs.Calls.{max_narrow, can_say}
use Rattle.record.proofs.Fits.{key_fits_lem, print-fits}
use Rattle.checkpoint_format.proofs.Sizes.{checkpoint-length, stages-at-most, longest-wide}

kind-small : (f : Format) → checkpoint_kind f < 256 ^ kind_width
kind-small Narrow = omega arith
kind-small Wide = omega arith

-- A place of the stream up to t can be said where t can.
place-fits : (f : Format) (n t : ℕ) → n ≤ t → t ≤ max_taken → can_say f t ≡ true → n < 256 ^ place_width f
place-fits Narrow n t l within said = omega (arith, leb-true t max_narrow said)
place-fits Wide n t l within said = omega arith

module _ (f : Format) (t : ℕ) (within : t ≤ max_taken) (said : can_say f t ≡ true) where
  mark-fits : (mark : Mark) → mark.at ≤ t → Below mark.print → EachFits (mark_fields f mark)
  mark-fits mark l h = (place-fits f mark.at t l within said, print-fits mark.print h)

  stage-each :
      (s : Stage)
      → s.held ≤ max_count
      → EachFits (mark_fields f s.first)
      → EachFits (mark_fields f s.last)
      → EachFits (gap_fields s.step)
      → EachFits (stage_fields f s)
  stage-each s held first last step = (
    omega arith,
    fit_append (mark_fields f s.first ++ mark_fields f s.last) (gap_fields s.step)
        (fit_append (mark_fields f s.first) (mark_fields f s.last) first last) step,
  )

  -- Held and step are no more than the way from the first start to the last, which is shorter than the passage; no start is past t.
  stage-fits : (m i : ℕ) (s : Stage) → m ≤ max_length → Fit m i t t s → EachFits (stage_fields f s)
  stage-fits m i s short (idle e) =
      subst (λ (u : Stage). EachFits (stage_fields f u)) (sym e)
      (let none = mark-fits origin (omega arith) empty-below in
      stage-each no_stage (omega arith) none none (omega arith, print-fits empty empty-below))
  stage-fits m i s short (single q) =
      let first = mark-fits s.first (omega (arith, q.aged.old)) q.print in
      subst (λ (u : Stage). EachFits (stage_fields f u)) (sym q.shape)
      (stage-each (alone s.first) (omega arith) first first (omega arith, print-fits empty empty-below))
  stage-fits m i s short (several q) =
      let more : ℕ = q.more in
      let step : ℕ = s.step.length in
      let starts : suc more * 1 ≤ suc more * step = mul-le-mul (omega arith) (omega (arith, q.moves)) in
      let steps : 1 * step ≤ suc more * step = mul-le-mul (omega arith) (omega arith) in
      let last : s.last.at ≤ t = omega (arith, q.last-aged.old) in
      let ends = q.ends in
      let held = q.held in
      let way : suc more * step ≤ max_length =
      omega (arith, q.last-aged.old, q.first-aged.young, length-within m (suc i))
      in
      stage-each s (omega arith) (mark-fits s.first (omega arith) q.first-print) (mark-fits s.last last q.last-print)
      (omega arith, print-fits s.step.print q.step-print)

pub watch-fields :
    (f : Format) (w : Matcher)
    → matcher_fits w ≡ true
    → can_say f w.now.at ≡ true
    → EachFits (record_fields (checkpoint_body f (levels w.signature.length) w))
unfolding checkpoint_body
watch-fields f w e said =
    let card = w.signature in
    let k : ℕ = levels card.length in
    let t : ℕ = w.now.at in
    let q = sound w e in
    let c = card-of q in
    let bound = levels-bound card.length c.short in
    let key = key_fits_lem card.key c.key in
    let last = print-fits (last_print card) (c.tested k (omega arith)) in
    let now = mark-fits f t q.within said w.now (le_refl t) q.print in
    let front =
    fit_append (key_fields card.key ++ print_fields (last_print card)) (mark_fields f w.now)
    (fit_append (key_fields card.key) (print_fields (last_print card)) key last) now
    in
    let stages : EachFits (gathered (stage_fields_of f w.stages) k) =
    fit-gathered (stage_fields_of f w.stages) k
    (λ i j. stage-fits f t q.within said card.length i (stage_at w.stages i) c.short (q.stage i (omega arith)))
    in (
      omega (arith, checkpoint-length f k w, stages-at-most f k bound, longest-wide f),
      (
        kind-small f,
        (
          omega (arith, c.short),
          fit_append (key_fields card.key ++ print_fields (last_print card) ++ mark_fields f w.now)
              (gathered (stage_fields_of f w.stages) k) front stages,
        ),
      ),
    )
