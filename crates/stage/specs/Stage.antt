-- One stage of a watch: when it misfits (document 01, "Misfit"), and how starts come and go (document 01, "Ladder"). Defined for every
-- stage, also for those to which no history leads.
use Rattle.std.specs.Prelude.{ℕ, suc, ◌+◌, ◌-◌, ◌*◌, min, Bool, true, cond, not, ◌&&◌, ltb, leb, eqb, Option, Some, None}
use Rattle.fingerprint.specs.declared.Key.{Key}
use Rattle.fingerprint.specs.Fingerprint.{print_fits, same, empty, pushed, joined, joined_times, rest}
use Rattle.ladder.specs.Prefix.{levels, prefix_length}
use Rattle.stage.specs.declared.Mark.{Mark}
use Rattle.stage.specs.declared.Gap.{Gap}
use Rattle.stage.specs.declared.Stage.{Stage}
use Rattle.stage.specs.declared.Progression.{Progression}
use Rattle.stage.specs.declared.Entry.{Entry}

-- The most bytes that a watch takes, and so the last place in a stream: "the stream run to 1099511627775 bytes" (document 02, A.5).
abbrev pub max_taken : ℕ
max_taken = 1099511627775

-- The most starts that a stage can count, and the longest step that it can say: both have 32 bits.
abbrev pub max_count : ℕ
max_count = 4294967295

-- The stream's begin: no bytes, whose fingerprint is 0.
abbrev pub origin : Mark
origin = record { at = 0; print = empty }

-- t with F_t is no misfit: "the new limit, above which t is a misfit" (A.5); "a fingerprint not below p; .. F_t not 0 at t = 0" are misfits.
abbrev pub now_fits : Mark → Bool
now_fits now =
    leb now.at max_taken && print_fits now.print && cond (eqb now.at 0) (same now.print empty) true

abbrev pub no_gap : Gap
no_gap = record { length = 0; print = empty }

-- "Held 0: the other six are 0."
abbrev pub no_stage : Stage
no_stage = record { held = 0; first = origin; last = origin; step = no_gap }

abbrev pub same_mark : Mark → Mark → Bool
same_mark a b = eqb a.at b.at && same a.print b.print

abbrev pub same_gap : Gap → Gap → Bool
same_gap a b = eqb a.length b.length && same a.print b.print

-- "a listed first or last with t - start outside |P_i| .. |P_(i+1)| - 1" is a misfit: the two lengths, t and the start.
abbrev pub age_fits : ℕ → ℕ → ℕ → ℕ → Bool
age_fits short long t start = leb (start + short) t && ltb t (start + long)

-- "Held 0: the other six are 0."
unfoldable pub none_fits : Stage → Bool
none_fits s = same_mark s.first origin && same_mark s.last origin && same_gap s.step no_gap

-- "Held 1: last = first, F_last = F_first, step and step print 0."
unfoldable pub one_fits : ℕ → ℕ → ℕ → Stage → Bool
one_fits short long t s =
    print_fits s.first.print
    && age_fits short long t s.first.at
    && same_mark s.last s.first
    && same_gap s.step no_gap

-- "a fingerprint not below p" is a misfit.
abbrev pub stage_prints_fit : Stage → Bool
stage_prints_fit s = print_fits s.first.print && print_fits s.last.print && print_fits s.step.print

-- "last not first + (held-1) × step" is a misfit.
abbrev pub reach_fits : ℕ → ℕ → ℕ → ℕ → Bool
reach_fits first last n step = eqb last (first + n * step)

-- "held of 2 or more with step 0 or last not first + (held-1) × step" is a misfit.
unfoldable pub many_fit : ℕ → ℕ → ℕ → Stage → Bool
many_fit short long t s =
    stage_prints_fit s
    && age_fits short long t s.first.at
    && age_fits short long t s.last.at
    && not (eqb s.step.length 0)
    && reach_fits s.first.at s.last.at (s.held - 1) s.step.length

abbrev listed_fits : ℕ → ℕ → ℕ → Stage → Bool
listed_fits short long t s = cond (eqb s.held 1) (one_fits short long t s) (many_fit short long t s)

-- Document 01's rules for stage i of a watch over m bytes at t: by the held rules below k, and "a stage past k-1" is all 0.
unfoldable pub shape_fits : ℕ → ℕ → ℕ → Stage → Bool
shape_fits m i t s =
    cond (eqb s.held 0) (none_fits s)
    (ltb i (levels m) && listed_fits (prefix_length m i) (prefix_length m (suc i)) t s)

-- "A stage with two or more held starts must have the F_last that comes out of F_first by held - 1 joins of the step print" (document 02, A.7).
unfoldable pub last_fits : Key → Stage → Bool
last_fits key s =
    cond (ltb 1 s.held)
    (same s.last.print (joined_times key (s.held - 1) s.first.print s.step.print s.step.length))
    true

-- Stage i of a watch over m bytes at t is no misfit.
unfoldable pub stage_fits : Key → ℕ → ℕ → ℕ → Stage → Bool
stage_fits key m i t s = shape_fits m i t s && last_fits key s

-- The mark with one byte more: t and F_t behind the next byte.
abbrev pub next_mark : Key → Mark → ℕ → Mark
next_mark key now byte = record { at = suc now.at; print = pushed key now.print byte }

-- The block between two marks: "the print of a gap comes from F_last and the newcomer's F".
abbrev pub gap_to : Key → Mark → Mark → Gap
gap_to key a b = record { length = b.at - a.at; print = rest key b.print a.print (b.at - a.at) }

-- "Taking off the first of several adds the step to first and joins the step print to F_first".
abbrev pub forward : Key → Mark → Gap → Mark
forward key a gap = record { at = a.at + gap.length; print = joined key a.print gap.print gap.length }

-- a stage that lists one start
abbrev pub alone : Mark → Stage
alone mark = record { held = 1; first = mark; last = mark; step = no_gap }

-- The stage without its first start: ".. when one is left, last and F_last become first and F_first, and step and step print 0".
unfoldable pub taken_off : Key → Stage → Stage
taken_off key s =
    cond (eqb s.held 1) no_stage
    (cond (eqb s.held 2) (alone s.last)
    (record { held = s.held - 1; first = forward key s.first s.step; last = s.last; step = s.step }))

-- "Into a stage that lists none or one, the start is added. With two or more .. the newcomer is added if its gap to the last start equals
-- the step and the bytes of that gap have the step print. Otherwise .. the last and the newcomer remain"; "a last kept at a setting aside
-- becomes first with its F_last as F_first".
unfoldable pub entered : Key → Stage → Mark → Stage
entered key s new =
    cond (eqb s.held 0) (alone new)
    (cond (not (eqb s.held 1) && same_gap (gap_to key s.last new) s.step)
    (record { held = suc s.held; first = s.first; last = new; step = s.step })
    (record { held = 2; first = s.last; last = new; step = gap_to key s.last new }))

-- Whether entering sets starts aside.
abbrev pub sets_aside : Key → Stage → Mark → Bool
sets_aside key s new = ltb 1 s.held && not (same_gap (gap_to key s.last new) s.step)

-- "all listed starts but the last are set aside, as (first, step, how many)"
abbrev pub all_but_last : Stage → Progression
all_but_last s = record { first = s.first.at; step = s.step.length; many = s.held - 1 }

abbrev pub aside_of : Key → Stage → Mark → Option Progression
aside_of key s new = cond (sets_aside key s new) (Some (all_but_last s)) None

-- "If stage i lists the start t - |P_(i+1)|": in a watch that is no misfit only its first can be that.
abbrev pub ripe_at : ℕ → ℕ → Stage → Bool
ripe_at length t s = not (eqb s.held 0) && eqb (s.first.at + length) t

-- The last t, up to the one given, before the first start is ripe.
abbrev pub quiet_until : ℕ → ℕ → Stage → ℕ
quiet_until length until s = cond (eqb s.held 0) until (min until (s.first.at + length - 1))

-- Calls answer for any stage. One that holds no start, or whose second start would lie past the last place, has none to take off; one that
-- holds as many starts as can be counted, or whose last start is farther from the newcomer than a step can say, takes none. No watch has
-- such a stage where it is called, and what is left of it is nothing.
abbrev pub can_take_off : Stage → Bool
can_take_off s = not (eqb s.held 0) && leb (s.first.at + s.step.length) max_taken

unfoldable pub take_off_of : Key → Stage → Stage
take_off_of key s = cond (can_take_off s) (taken_off key s) no_stage

abbrev pub can_enter : Stage → Mark → Bool
can_enter s new = cond (eqb s.held 0) true (ltb s.held max_count && leb (new.at - s.last.at) max_count)

unfoldable pub entry_of : Key → Stage → Mark → Entry
entry_of key s new =
    cond (can_enter s new) (record { stage = entered key s new; aside = aside_of key s new })
    (record { stage = no_stage; aside = None })
