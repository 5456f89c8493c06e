use Rattle.std.proofs.Common.{◌≡◌, ◌+◌, ◌-◌, vec_items}
use Rattle.plans.specs.Bytes.{stages_in}
use Rattle.plans.proofs.Scans.{onto}
use Rattle.plans.proofs.plan.decode.read_stages.Given as goal

-- the stages that were read, and those that are left
abbrev pub invariant-loop-i : goal.invariant-loop-i
invariant-loop-i l = onto (vec_items l.stages) (stages_in (l.count - l.i) (l.i + 1) l.rest) ≡ stages_in l.count 1 l.bytes
