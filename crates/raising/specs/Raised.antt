-- A watch that was begun behind some bytes of a longer stream, as that stream's places and fingerprints have it: its starts are raised by
-- the number of those bytes, and their fingerprints are behind those bytes' own.
use Rattle.std.specs.Prelude.{ℕ, ◌+◌, cond, Option, ◌++◌, map, eqb, take, drop}
use Rattle.std.specs.Option.{option_map}
use Rattle.fingerprint.specs.declared.Key.{Key}
use Rattle.fingerprint.specs.Fingerprint.{joined}
use Rattle.stage.specs.declared.Mark.{Mark}
use Rattle.stage.specs.declared.Stage.{Stage}
use Rattle.matcher.specs.declared.Matcher.{Matcher}
use Rattle.walk.specs.declared.Answer.{Answer}
use Rattle.stage.specs.declared.Progression.{Progression}

-- The mark behind the base and then the bytes before the mark.
abbrev pub raised_mark : Key → Mark → Mark → Mark
raised_mark key base a = record { at = base.at + a.at; print = joined key base.print a.print a.at }

unfoldable pub raised_stage : Key → Mark → Stage → Stage
raised_stage key base s =
    cond (eqb s.held 0) s
    (record { held = s.held; first = raised_mark key base s.first; last = raised_mark key base s.last; step = s.step })

unfoldable pub raised_watch : Mark → Matcher → Matcher
raised_watch base w =
    record {
      signature = w.signature;
      now = raised_mark w.signature.key base w.now;
      stages = map (raised_stage w.signature.key base) w.stages;
    }

abbrev pub raised_ring : ℕ → Option ℕ → Option ℕ
raised_ring c ring = option_map (λ start. c + start) ring

abbrev pub raised_set : ℕ → Progression → Progression
raised_set c x = record { first = c + x.first; step = x.step; many = x.many }

-- The whole answer with its starts raised: of the sets those that count; the places past them stay as they are.
abbrev pub raised_answer : ℕ → Answer → Answer
raised_answer c a =
    record {
      ring = raised_ring c a.ring;
      sets = map (raised_set c) (take a.asides a.sets) ++ drop a.asides a.sets;
      asides = a.asides;
      comparisons = a.comparisons;
    }
