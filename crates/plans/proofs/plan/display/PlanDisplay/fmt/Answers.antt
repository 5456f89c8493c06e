use Rattle.std.proofs.Common.{◌+◌, ◌++◌, drop, get_or, sym, ap, ◌∙◌, arith, rules, append_assoc, append-nil}
use Rattle.std.proofs.Output.{has_written_append, has_written_of_eq}
use Rattle.std.specs.Fmt.{HasWritten}
use Rattle.std.proofs.lemmas.List.{at_drop_more, at_drop_all}
use Rattle.plans.specs.Texts.{heading_text, stage_text, stages_text}
use Rattle.plans.specs.Told.{plan_of}
use Rattle.plans.specs.declared.stage.Movement.TheVariants.{MainRoad}
use Rattle.plans.specs.declared.stage.Stage.{Stage}
use Rattle.plans.proofs.plan.display.PlanDisplay.fmt.Goals as goal

-- what a stage past the end reads as
abbrev blank : Stage
blank = record { movement = MainRoad; green = 0; intergreen = 0 }

-- one more line
pub loop-i-preserved : goal.loop-i-preserved
loop-i-preserved g c = (
  omega (arith, c.loop-i.invariant.0, c.seconds-start.ensures.bound),
  λ plain.
      let so_far = c.loop-i.invariant.1 plain in
      let line = stage_text (c.loop-i.i + 1) c.loop-i.start (get_or c.stages-stage-items.result.now c.loop-i.i blank) in (
        so_far.0 ++ line,
        has_written_append _ _ _ _ _ _ so_far.1 (search rules),
        ap (λ n. so_far.0 ++ line ++ stages_text (c.loop-i.i + 1 + 1) (c.loop-i.start + n) (drop (c.loop-i.i + 1) c.stages-stage-items.result.now)) c.seconds-start.ensures.value
            ∙ append_assoc so_far.0 _ _
            ∙ ap (λ t. so_far.0 ++ t)
            (sym (at_drop_more (stages_text (c.loop-i.i + 1) c.loop-i.start) c.stages-stage-items.result.now c.loop-i.i blank c.loop-i-test.true))
            ∙ so_far.2,
      ),
)

pub returns-clause-writes : goal.returns-clause-writes
returns-clause-writes g c = λ plain _.
    let head : HasWritten g.W.Write.write_str_gives c.args.f.now (heading_text (plan_of c.args.self.now)) c.write.new.self = c.write.ensures.writes plain (search rules) in
    let so_far = c.loop-i.invariant.1 head.plain in
    let lines =
    sym (append-nil so_far.0)
    ∙ ap (λ t. so_far.0 ++ t) (sym (at_drop_all (stages_text (c.loop-i.i + 1) c.loop-i.start) c.stages-stage-items.result.now c.loop-i.i c.loop-i-test.false))
    ∙ so_far.2
    ∙ ap (stages_text 1 0) c.stages-stage-items.ensures.value in
    has_written_of_eq _ _ _ _ _ (ap (λ t. heading_text (plan_of c.args.self.now) ++ t) lines) (has_written_append _ _ _ _ _ _ head so_far.1)
