use Rattle.std.proofs.Common.{◌≡◌, ◌+◌, drop}
use Rattle.plans.specs.Rules.{stage_fault}
use Rattle.plans.proofs.rules.check_stages.Given as goal

-- the stages that are left decide
abbrev pub invariant-loop-i : goal.invariant-loop-i
invariant-loop-i l = stage_fault (l.i + 1) (drop l.i l.stages) ≡ stage_fault 1 l.stages
