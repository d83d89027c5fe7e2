-- The walk that `climb` makes of any stages, with any powers: the walk of document 01 where the powers are those of the card's key, and the
-- stages are those of a watch that is no misfit (proofs/Climbs.antt). Where no watch leads, calls on a stage answer all the same, and so
-- does a card longer than the longest: nothing is compared.
use Rattle.std.specs.Prelude.{ℕ, zero, suc, Bool, cond, List, get_or, leb, eqb}
use Rattle.fingerprint.specs.declared.Key.{Key}
use Rattle.fingerprint.specs.declared.Power.{Power}
use Rattle.fingerprint.specs.Fingerprint.{same, empty, rest_by, no_power}
use Rattle.ladder.specs.Prefix.{levels}
use Rattle.signature.specs.Signature.{max_length}
use Rattle.stage.specs.declared.Mark.{Mark}
use Rattle.stage.specs.declared.Stage.{Stage}
use Rattle.stage.specs.declared.Entry.{Entry}
use Rattle.stage.specs.Stage.{take_off_of, entry_of}
use Rattle.stage.specs.Stages.{Stages, stage_at, with_stage}
use Rattle.walk.specs.declared.Round.{Round}
use Rattle.walk.specs.declared.Walk.{Walk}
use Rattle.walk.specs.Walk.{no_answer, ringing, with_aside, compared, ripe}

-- "it is rung if i = k, else it enters stage i"
unfoldable pub promoted_by : Key → ℕ → ℕ → Mark → Walk → Walk
promoted_by key k i start w =
    let entry : Entry = entry_of key (stage_at w.stages i) start in
    cond (eqb i k)
    (record { stages = w.stages; answer = ringing start.at w.answer })
    (record { stages = with_stage w.stages i entry.stage; answer = with_aside entry.aside w.answer })

-- "compared by fingerprint with P_i": the block from the start to now, cut out by the power given for P_i.
abbrev pub matches_by : List Power → Round → ℕ → Mark → Bool
matches_by shifts c i start =
    same (rest_by (get_or shifts i no_power) c.now.print start.print) (get_or c.signature.prints i empty)

unfoldable pub tried_by : List Power → Round → ℕ → Mark → Walk → Walk
tried_by shifts c i start w =
    let counted : Walk = record { stages = w.stages; answer = compared w.answer } in
    cond (matches_by shifts c i start) (promoted_by c.signature.key (levels c.signature.length) i start counted) counted

unfoldable pub visited_by : List Power → Round → ℕ → Walk → Walk
visited_by shifts c i w =
    let s : Stage = stage_at w.stages i in
    cond (ripe c i s)
    (tried_by shifts c (suc i) s.first
    (record { stages = with_stage w.stages i (take_off_of c.signature.key s); answer = w.answer }))
    w

-- "Stages are visited from k-1 down to 0"
unfoldable pub descended_by : List Power → Round → ℕ → Walk → Walk
descended_by shifts c zero w = w
descended_by shifts c (suc i) w = descended_by shifts c i (visited_by shifts c i w)

-- "At each byte": the stages, and then "start t-1 is compared with P_0".
unfoldable pub walked_by : List Power → Round → Mark → Stages → Walk
walked_by shifts c start stages =
    let begin : Walk = record { stages = stages; answer = no_answer } in
    cond (leb c.signature.length max_length)
    (tried_by shifts c 0 start (descended_by shifts c (levels c.signature.length) begin))
    begin
