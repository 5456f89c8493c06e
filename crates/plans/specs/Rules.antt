-- A plan as plain values, and the rules that a legal plan meets.
use Rattle.std.specs.Prelude.{◌≡◌, ℕ, ◌+◌, ◌<◌, ◌≤◌, Bool, cond, not, ◌&&◌, List, [], ◌∷◌, length, vec_items, is_some, sum_by, Some, None, Ok, Err, Option, Result, ◌==◌, nat_le, nat_lt}
use Rattle.std.specs.List.{AllByRecursion}
use Rattle.plans.specs.declared.stage.Stage.{Stage}
use Rattle.plans.specs.declared.fault.PlanFault.{PlanFault}
use Rattle.plans.specs.declared.plan.PlanValues.{PlanValues}
use Rattle.plans.specs.declared.fault.PlanFault.TheVariants.{NoJunction, NoNumber, CycleOutOfRange, OffsetOutOfRange, StageCount, GreenTooShort, IntergreenOutOfRange, CycleNotFilled}
use Rattle.plans.specs.Stages.{stage_seconds}

-- a plan as plain values
pub record PlanData : Type 0 where
  pub junction : ℕ
  pub number : ℕ
  pub cycle : ℕ
  pub offset : ℕ
  pub stages : List Stage

-- the plain values that the code's values stand for
abbrev pub data_of : PlanValues → PlanData
data_of v =
    record { junction = v.junction; number = v.number; cycle = v.cycle; offset = v.offset; stages = vec_items v.stages }

-- the seconds of all stages together
abbrev pub total : List Stage → ℕ
total ss = sum_by stage_seconds ss

-- the rules for one stage
pub record LegalStage (s : Stage) : Type 0 where
  pub green_least : 4 ≤ s.green
  pub green_most : s.green ≤ 255
  pub intergreen_least : 3 ≤ s.intergreen
  pub intergreen_most : s.intergreen ≤ 15

-- the rules for a plan
pub record Legal (p : PlanData) : Type 0 where
  pub junction_least : 1 ≤ p.junction
  pub junction_most : p.junction ≤ 65535
  pub number_least : 1 ≤ p.number
  pub number_most : p.number ≤ 255
  pub cycle_least : 20 ≤ p.cycle
  pub cycle_most : p.cycle ≤ 240
  pub offset_below : p.offset < p.cycle
  pub stages_least : 2 ≤ length p.stages
  pub stages_most : length p.stages ≤ 8
  pub each_stage : AllByRecursion LegalStage p.stages
  pub filled : total p.stages ≡ p.cycle

-- whether a number lies between two, both included
abbrev pub within : ℕ → ℕ → ℕ → Bool
within low x high = nat_le low x && nat_le x high

-- one test: its fault where it fails, else what the later tests say
abbrev pub unless : Bool → PlanFault → Option PlanFault → Option PlanFault
unless ok f later = cond ok later (Some f)

-- a fault, else what the later tests say
abbrev pub or_else : Option PlanFault → Option PlanFault → Option PlanFault
or_else (Some f) later = Some f
or_else None later = later

-- the tests of one stage, which is the n-th
abbrev pub times_fault : ℕ → Stage → Option PlanFault
times_fault n s =
    unless (nat_le 4 s.green) (GreenTooShort n s.green)
    (unless (within 3 s.intergreen 15) (IntergreenOutOfRange n s.intergreen)
    None)

-- the tests of all stages, of which the first is the n-th
abbrev pub stage_fault : ℕ → List Stage → Option PlanFault
stage_fault n [] = None
stage_fault n (s ∷ ss) = or_else (times_fault n s) (stage_fault (n + 1) ss)

-- the tests of a plan in their order: the first fault, or none
abbrev pub fault_in : PlanData → Option PlanFault
fault_in p =
    unless (within 1 p.junction 65535) NoJunction
    (unless (within 1 p.number 255) NoNumber
    (unless (within 20 p.cycle 240) (CycleOutOfRange p.cycle)
    (unless (nat_lt p.offset p.cycle) (OffsetOutOfRange p.offset)
    (unless (within 2 (length p.stages) 8) (StageCount (length p.stages))
    (or_else (stage_fault 1 p.stages)
    (unless (total p.stages == p.cycle) (CycleNotFilled (total p.stages))
    None))))))

-- whether a plan passes all tests
abbrev pub passes : PlanData → Bool
passes p = not (is_some (fault_in p))

-- a value, unless there is a fault
abbrev pub answer : {X : Type 0} → X → Option PlanFault → Result X PlanFault
answer x (Some f) = Err f
answer x None = Ok x

-- what the tests answer to a plan's values
abbrev pub judged : PlanData → Result PlanData PlanFault
judged p = answer p (fault_in p)
