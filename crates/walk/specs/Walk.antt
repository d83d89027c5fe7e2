-- One byte's walk over the stages of a card, which stores, for each stage, held, first, last and step (document 01, "Ladder"). Defined for
-- all stages, also for those to which no history leads. `Refinement` shows that it is the ladder with unlimited lists.
use Rattle.std.specs.Prelude.{ℕ, zero, suc, Bool, cond, ◌&&◌, get_or, set, replicate, eqb, Option, Some, None, is_none}
use Rattle.fingerprint.specs.declared.Key.{Key}
use Rattle.fingerprint.specs.Fingerprint.{same, empty}
use Rattle.ladder.specs.Prefix.{levels, prefix_length}
use Rattle.stage.specs.declared.Mark.{Mark}
use Rattle.stage.specs.declared.Stage.{Stage}
use Rattle.stage.specs.declared.Progression.{Progression}
use Rattle.stage.specs.Stage.{gap_to, taken_off, entered, sets_aside, all_but_last, ripe_at}
use Rattle.stage.specs.Stages.{stage_count, Stages, stage_at, with_stage}
use Rattle.walk.specs.declared.Answer.{Answer}
pub use Rattle.walk.specs.declared.Round.{Round}
pub use Rattle.walk.specs.declared.Walk.{Walk}

abbrev pub no_progression : Progression
no_progression = record { first = 0; step = 0; many = 0 }

-- the answer before anything was found
abbrev pub no_answer : Answer
no_answer = record { ring = None; sets = replicate stage_count no_progression; asides = 0; comparisons = 0 }

-- Whether an answer has no ring and no set.
abbrev pub silent : Answer → Bool
silent a = is_none a.ring && eqb a.asides 0

abbrev pub ringing : ℕ → Answer → Answer
ringing start a = record { ring = Some start; sets = a.sets; asides = a.asides; comparisons = a.comparisons }

abbrev pub with_set : Progression → Answer → Answer
with_set x a =
    record { ring = a.ring; sets = set a.sets a.asides x; asides = suc a.asides; comparisons = a.comparisons }

abbrev pub with_aside : Option Progression → Answer → Answer
with_aside None a = a
with_aside (Some x) a = with_set x a

abbrev pub compared : Answer → Answer
compared a =
    record { ring = a.ring; sets = a.sets; asides = a.asides; comparisons = suc a.comparisons }

-- "it is rung if i = k, else it enters stage i": the start whose block just matched P_i.
unfoldable pub promoted_under : Key → ℕ → ℕ → Mark → Walk → Walk
promoted_under key k i start w =
    let s : Stage = stage_at w.stages i in
    cond (eqb i k)
    (record { stages = w.stages; answer = ringing start.at w.answer })
    (record {
      stages = with_stage w.stages i (entered key s start);
      answer = cond (sets_aside key s start) (with_set (all_but_last s) w.answer) w.answer;
    })

abbrev pub promoted : Round → ℕ → Mark → Walk → Walk
promoted c i start w = promoted_under c.signature.key (levels c.signature.length) i start w

-- "the last |P_i| bytes are compared by fingerprint with P_i": those from the start to now.
abbrev pub matches : Round → ℕ → Mark → Bool
matches c i start = same (gap_to c.signature.key start c.now).print (get_or c.signature.prints i empty)

unfoldable pub tried : Round → ℕ → Mark → Walk → Walk
tried c i start w =
    let counted : Walk = record { stages = w.stages; answer = compared w.answer } in
    cond (matches c i start) (promoted c i start counted) counted

-- "If stage i lists the start t - |P_(i+1)|"
abbrev pub ripe : Round → ℕ → Stage → Bool
ripe c i s = ripe_at (prefix_length c.signature.length (suc i)) c.now.at s

unfoldable pub visited : Round → ℕ → Walk → Walk
visited c i w =
    let s : Stage = stage_at w.stages i in
    cond (ripe c i s)
    (tried c (suc i) s.first (record { stages = with_stage w.stages i (taken_off c.signature.key s); answer = w.answer }))
    w

-- "Stages are visited from k-1 down to 0": those below i, the highest first.
unfoldable pub descended : Round → ℕ → Walk → Walk
descended c zero w = w
descended c (suc i) w = descended c i (visited c i w)

-- "At each byte": the stages, and then "start t-1 is compared with P_0".
unfoldable pub walked_from : Round → Mark → Stages → Walk
walked_from c start stages =
    tried c 0 start (descended c (levels c.signature.length) (record { stages = stages; answer = no_answer }))
