-- What makes the record's code exact.
use Rattle.std.specs.Prelude.{◌≡◌, ℕ, ◌<◌, List, ◌++◌, replicate, None, Ok}
use Rattle.std.specs.List.{AllByRecursion}
use Rattle.plans.specs.declared.plan.Plan.{Plan}
use Rattle.plans.specs.Rules.{PlanData, Legal, fault_in}
use Rattle.plans.specs.Bytes.{encoded, decoded}
use Rattle.plans.specs.Told.{plan_of}

-- the tests find no fault exactly where the plan is legal
abbrev pub TestsAreTheRules : Type 0
TestsAreTheRules = (p : PlanData) → (fault_in p ≡ None → Legal p) × (Legal p → fault_in p ≡ None)

-- each plan that the code holds is legal
abbrev pub EachPlanIsLegal : Type 0
EachPlanIsLegal = (p : Plan) → Legal (plan_of p)

-- the bytes of a legal plan, with any padding, say that plan
abbrev pub EncodingIsReadBack : Type 0
EncodingIsReadBack = (p : PlanData) (k : ℕ) → Legal p → decoded (encoded p ++ replicate k 0) ≡ Ok p

-- bytes that say a plan are the bytes of that plan with padding, and it is legal
abbrev pub AcceptedIsAPlan : Type 0
AcceptedIsAPlan =
    (bs : List ℕ) (p : PlanData) → AllByRecursion (λ b. b < 256) bs → decoded bs ≡ Ok p →
    Legal p × ((k : ℕ) × (bs ≡ encoded p ++ replicate k 0))

-- two legal plans with the same bytes are the same
abbrev pub BytesTellPlansApart : Type 0
BytesTellPlansApart = (p q : PlanData) → Legal p → Legal q → encoded p ≡ encoded q → p ≡ q
