-- A plan as the bytes of its record, and what bytes say.
use Rattle.std.specs.Prelude.{ℕ, zero, suc, ◌+◌, ◌*◌, ◌/◌, ◌%◌, not, cond, ◌&&◌, List, [], ◌∷◌, ◌++◌, length, drop, Some, None, Ok, Err, Option, Result, ◌==◌, nat_lt, slice_index}
use Rattle.std.specs.List.{flat_map, position_from}
use Rattle.plans.specs.declared.stage.Movement.{Movement}
use Rattle.plans.specs.declared.stage.Stage.{Stage}
use Rattle.plans.specs.declared.fault.PlanFault.{PlanFault}
use Rattle.plans.specs.declared.fault.PlanFault.TheVariants.{Short, NotAPlan, UnknownVersion, UnknownMovement, NotPadding}
use Rattle.plans.specs.Stages.{movement_code, movement_of}
use Rattle.plans.specs.Rules.{PlanData, judged}

-- the three bytes of a stage
abbrev pub stage_bytes : Stage → List ℕ
stage_bytes s = movement_code s.movement ∷ s.green ∷ s.intergreen ∷ []

-- the bytes of all stages
abbrev pub stages_bytes : List Stage → List ℕ
stages_bytes ss = flat_map stage_bytes ss

-- the nine bytes before the stages
abbrev pub header_bytes : PlanData → List ℕ
header_bytes p =
    0x53 ∷ 0x50 ∷ 1 ∷ p.junction / 256 ∷ p.junction % 256 ∷ p.number ∷ p.cycle ∷ p.offset ∷ length p.stages ∷ []

-- a plan's bytes, with no padding
abbrev pub encoded : PlanData → List ℕ
encoded p = header_bytes p ++ stages_bytes p.stages

-- a stage in front of those that follow it
abbrev pub in_front : Stage → Result (List Stage) PlanFault → Result (List Stage) PlanFault
in_front s (Ok ss) = Ok (s ∷ ss)
in_front s (Err f) = Err f

-- the k-th stage, whose movement may be unknown, and those that follow it
abbrev pub with_stage : Option Movement → ℕ → ℕ → ℕ → ℕ → Result (List Stage) PlanFault → Result (List Stage) PlanFault
with_stage None k code g i later = Err (UnknownMovement k code)
with_stage (Some m) k code g i later = in_front (record { movement = m; green = g; intergreen = i }) later

-- n stages, of which the first is the k-th, read from the front of the bytes
abbrev pub stages_in : ℕ → ℕ → List ℕ → Result (List Stage) PlanFault
stages_in zero k bs = Ok []
stages_in (suc n) k [] = Err Short
stages_in (suc n) k (b ∷ []) = Err Short
stages_in (suc n) k (b ∷ g ∷ []) = Err Short
stages_in (suc n) k (b ∷ g ∷ i ∷ bs) = with_stage (movement_of b) k b g i (stages_in n (k + 1) bs)

-- the position of the first byte that is not 0; the first byte's position is i
abbrev pub stray : ℕ → List ℕ → Option ℕ
stray i bs = position_from (λ b. not (b == 0)) i bs

-- the answer where the padding is as it should be, else the fault
abbrev pub when_padded : Option ℕ → Result PlanData PlanFault → Result PlanData PlanFault
when_padded (Some i) later = Err (NotPadding i)
when_padded None later = later

-- the position after the last stage
abbrev pub end_of : List ℕ → ℕ
end_of bs = 9 + 3 * slice_index bs 8

-- the answer from the header and the stages that were read: first the padding, then the rules
abbrev pub with_stages : List ℕ → Result (List Stage) PlanFault → Result PlanData PlanFault
with_stages bs (Err f) = Err f
with_stages bs (Ok ss) =
    when_padded (stray (end_of bs) (drop (end_of bs) bs))
    (judged (record { junction = slice_index bs 3 * 256 + slice_index bs 4; number = slice_index bs 5; cycle = slice_index bs 6; offset = slice_index bs 7; stages = ss }))

-- what bytes say: the header's length, the marker, the version, the stages, the padding, the rules
abbrev pub decoded : List ℕ → Result PlanData PlanFault
decoded bs =
    cond (nat_lt (length bs) 9)
    (Err Short)
    (cond (slice_index bs 0 == 0x53 && slice_index bs 1 == 0x50)
    (cond (slice_index bs 2 == 1)
    (with_stages bs (stages_in (slice_index bs 8) 1 (drop 9 bs)))
    (Err (UnknownVersion (slice_index bs 2))))
    (Err NotAPlan))
