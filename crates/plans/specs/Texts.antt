-- Movements, faults and plans in words.
use Rattle.std.specs.Prelude.{ℕ, ◌+◌, List, [], ◌∷◌, ◌++◌, codes, decimal}
use Rattle.std.specs.List.{concat}
use Rattle.plans.specs.declared.stage.Movement.{Movement}
use Rattle.plans.specs.declared.stage.Movement.TheVariants.{MainRoad, SideRoad, TurningTraffic, Pedestrians}
use Rattle.plans.specs.declared.stage.UnknownMovement.{UnknownMovement}
use Rattle.plans.specs.declared.stage.Stage.{Stage}
use Rattle.plans.specs.declared.fault.PlanFault.{PlanFault}
use Rattle.plans.specs.declared.fault.PlanFault.TheVariants.{Short, NotAPlan, UnknownVersion, UnknownMovement as unknown_movement, NotPadding, NoJunction, NoNumber, CycleOutOfRange, OffsetOutOfRange, StageCount, GreenTooShort, IntergreenOutOfRange, CycleNotFilled, Memory}
use Rattle.plans.specs.Stages.{stage_seconds}
use Rattle.plans.specs.Rules.{PlanData}

-- a movement
abbrev pub movement_text : Movement → List ℕ
movement_text MainRoad = codes "main road"
movement_text SideRoad = codes "side road"
movement_text TurningTraffic = codes "turning traffic"
movement_text Pedestrians = codes "pedestrians"

-- a byte that stands for no movement
abbrev pub unknown_movement_text : UnknownMovement → List ℕ
unknown_movement_text e = codes "no movement has the code " ++ decimal e.0

-- a fault
abbrev pub fault_text : PlanFault → List ℕ
fault_text Short = codes "the bytes end before the plan does"
fault_text NotAPlan = codes "the bytes do not begin with the marker SP"
fault_text (UnknownVersion v) = concat (codes "the format's version is " ∷ decimal v ∷ codes ", not 1" ∷ [])
fault_text (unknown_movement k b) = concat (codes "in stage " ∷ decimal k ∷ codes " the movement's code is " ∷ decimal b ∷ codes ", not 1 to 4" ∷ [])
fault_text (NotPadding i) = concat (codes "byte " ∷ decimal i ∷ codes " comes after the plan and is not 0" ∷ [])
fault_text NoJunction = codes "the junction number is 0"
fault_text NoNumber = codes "the plan number is 0"
fault_text (CycleOutOfRange s) = concat (codes "the cycle length in seconds is " ∷ decimal s ∷ codes ", not 20 to 240" ∷ [])
fault_text (OffsetOutOfRange s) = concat (codes "the offset in seconds is " ∷ decimal s ∷ codes ", not below the cycle length" ∷ [])
fault_text (StageCount n) = concat (codes "the number of stages is " ∷ decimal n ∷ codes ", not 2 to 8" ∷ [])
fault_text (GreenTooShort k s) = concat (codes "in stage " ∷ decimal k ∷ codes " the green in seconds is " ∷ decimal s ∷ codes ", not 4 or more" ∷ [])
fault_text (IntergreenOutOfRange k s) = concat (codes "in stage " ∷ decimal k ∷ codes " the intergreen in seconds is " ∷ decimal s ∷ codes ", not 3 to 15" ∷ [])
fault_text (CycleNotFilled s) = concat (codes "the stages' time in seconds is " ∷ decimal s ∷ codes ", not the cycle length" ∷ [])
fault_text Memory = codes "there is no memory for the plan"

-- the line of the stage that is the n-th and begins at a second of the cycle
abbrev pub stage_text : ℕ → ℕ → Stage → List ℕ
stage_text n start s =
    concat (codes "\n  stage " ∷ decimal n ∷ codes ": " ∷ movement_text s.movement ∷ codes ", green " ∷ decimal s.green ∷ codes " s from second " ∷ decimal start ∷ codes ", then " ∷ decimal s.intergreen ∷ codes " s intergreen" ∷ [])

-- the lines of all stages, of which the first is the n-th and begins at that second
abbrev pub stages_text : ℕ → ℕ → List Stage → List ℕ
stages_text n start [] = []
stages_text n start (s ∷ ss) = stage_text n start s ++ stages_text (n + 1) (start + stage_seconds s) ss

-- the first line of a plan
abbrev pub heading_text : PlanData → List ℕ
heading_text p =
    concat (codes "junction " ∷ decimal p.junction ∷ codes ", plan " ∷ decimal p.number ∷ codes ", cycle " ∷ decimal p.cycle ∷ codes " s, offset " ∷ decimal p.offset ∷ codes " s" ∷ [])

-- a plan: its line, and a line for each stage
abbrev pub plan_text : PlanData → List ℕ
plan_text p = heading_text p ++ stages_text 1 0 p.stages
