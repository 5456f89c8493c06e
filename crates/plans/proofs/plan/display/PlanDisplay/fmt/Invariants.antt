use Rattle.std.proofs.Common.{◌≡◌, ◌+◌, ◌*◌, ◌≤◌, ◌++◌, List, ℕ, drop}
use Rattle.std.specs.Fmt.{HasWritten, IsPlainFormatter}
use Rattle.plans.specs.Texts.{stages_text}
use Rattle.plans.proofs.plan.display.PlanDisplay.fmt.Given as goal

-- the second that was come to, and what was written with what is left makes the lines of all stages
abbrev pub invariant-loop-i : goal.invariant-loop-i
invariant-loop-i g l =
    (l.start ≤ 510 * l.i)
    × (IsPlainFormatter l.initial.f
    → (bs : List ℕ) × HasWritten g.W.Write.write_str_gives l.initial.f bs l.f
    × (bs ++ stages_text (l.i + 1) l.start (drop l.i l.stage-items) ≡ stages_text 1 0 l.stage-items))
