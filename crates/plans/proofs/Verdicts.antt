-- The tests find no fault exactly where a plan is legal.
use Rattle.std.proofs.Common.{◌≡◌, ℕ, ◌+◌, ◌≤◌, true, not, List, [], ◌∷◌, is_some, Some, None, Option, refl, arith}
use Rattle.std.specs.List.{AllByRecursion}
use Rattle.std.proofs.lemmas.Bool.Decides.{nat_tests}
use Rattle.std.proofs.lemmas.List.Sums.{sum_by-cons}
use Rattle.plans.specs.declared.fault.PlanFault.{PlanFault}
use Rattle.plans.specs.declared.stage.Stage.{Stage}
use Rattle.plans.specs.Stages.{stage_seconds}
use Rattle.plans.specs.Rules.{PlanData, Legal, LegalStage, or_else, times_fault, stage_fault, total, fault_in}
use Rattle.plans.specs.Theorems.{TestsAreTheRules, EachPlanIsLegal}
use Rattle.plans.specs.Told.{plan_of}

or_else_none : (o later : Option PlanFault) → or_else o later ≡ None → (o ≡ None) × (later ≡ None)
or_else_none None later e = (refl, e)
or_else_none (Some f) later e = absurd cc

-- the tests of one stage, and those of all
stage_passed : (n : ℕ) (s : Stage) → times_fault n s ≡ None → s.green ≤ 255 → LegalStage s
stage_passed n s e h = grind (arith, nat_tests)

legal_stage : (n : ℕ) (s : Stage) → LegalStage s → times_fault n s ≡ None
legal_stage n s h = grind (arith, nat_tests)

stages_passed : (n : ℕ) (ss : List Stage) → stage_fault n ss ≡ None → total ss ≤ 255 → AllByRecursion LegalStage ss
stages_passed n [] e h = tt
stages_passed n (s ∷ ss) e h =
    let p = or_else_none (times_fault n s) (stage_fault (n + 1) ss) e in
    let sum = sum_by-cons stage_seconds s ss in
    (stage_passed n s p.0 (omega arith), stages_passed (n + 1) ss p.1 (omega arith))

legal_stages : (n : ℕ) (ss : List Stage) → AllByRecursion LegalStage ss → stage_fault n ss ≡ None
legal_stages n [] h = refl
legal_stages n (s ∷ ss) h = rw (legal_stage n s h.0) (legal_stages (n + 1) ss h.1)

passed_parts : (p : PlanData) → fault_in p ≡ None → total p.stages ≤ 255 × (stage_fault 1 p.stages ≡ None)
passed_parts p e = grind (arith, nat_tests)

pub passed_legal : (p : PlanData) → fault_in p ≡ None → Legal p
passed_legal p e = let each = stages_passed 1 p.stages (passed_parts p e).1 (passed_parts p e).0 in grind (arith, nat_tests)

pub legal_passed : (p : PlanData) → Legal p → fault_in p ≡ None
legal_passed p l = rw (legal_stages 1 p.stages l.each_stage) (grind (arith, nat_tests))

pub tests_are_the_rules : TestsAreTheRules
tests_are_the_rules p = (passed_legal p, legal_passed p)

none_from_test : (o : Option PlanFault) → not (is_some o) ≡ true → o ≡ None
none_from_test None e = refl
none_from_test (Some f) e = absurd cc

pub each_plan_is_legal : EachPlanIsLegal
each_plan_is_legal p = passed_legal (plan_of p) (none_from_test (fault_in (plan_of p)) p.legal)
