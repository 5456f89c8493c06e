-- What the code's values and answers say.
use Rattle.std.specs.Prelude.{◌≡◌, ◌⊎◌, Ok, Err, Result}
use Rattle.plans.specs.declared.fault.PlanFault.{PlanFault}
use Rattle.plans.specs.declared.fault.PlanFault.TheVariants.{Memory}
use Rattle.plans.specs.declared.plan.Plan.{Plan}
use Rattle.plans.specs.Rules.{PlanData, data_of}

-- a plan's values
abbrev pub plan_of : Plan → PlanData
plan_of p = data_of p.values

-- an answer of the code, by the plan's values
abbrev pub told : Result Plan PlanFault → Result PlanData PlanFault
told (Ok p) = Ok (plan_of p)
told (Err f) = Err f

-- the answer that is wanted, of a value as `view` shows it; but for want of memory
abbrev pub Answered : {X Y : Type 0} → (X → Y) → Result X PlanFault → Result Y PlanFault → Type 0
Answered view (Ok x) wanted = Ok (view x) ≡ wanted
Answered view (Err f) wanted = (f ≡ Memory) ⊎ (Err f ≡ wanted)
