use Rattle.std.proofs.Common.{◌≡◌, ◌++◌, take, vec_items}
use Rattle.plans.specs.Bytes.{header_bytes, stages_bytes}
use Rattle.plans.specs.Told.{plan_of}
use Rattle.plans.proofs.plan.Plan.encode.Given as goal

-- the header and the stages so far are written
abbrev pub invariant-loop-stage : goal.invariant-loop-stage
invariant-loop-stage l =
    vec_items l.bytes ≡ header_bytes (plan_of l.self) ++ stages_bytes (take l.stage-index l.stage-items)
