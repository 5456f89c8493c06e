use Rattle.std.proofs.Common.{◌+◌, map, drop, Err, sym, ap, ◌∙◌}
use Rattle.std.proofs.lemmas.Result.{err_from_is_err_and}
use Rattle.images.specs.Layers.{after, string_verdict}
use Rattle.images.proofs.Strings.{next_image, no_image}
use Rattle.images.proofs.layers.check_string.Goals as goal

pub returns-in_err-check_unit_of_string : goal.returns-in_err-check_unit_of_string
returns-in_err-check_unit_of_string c =
    let refs = c.args.images.now in
    let u = c.loop-unit.unit in
    let p = err_from_is_err_and c.from_residual.result c.from_residual.ensures.1 in
    p.1 ∙ ap Err p.2
    ∙ sym (c.loop-unit.invariant ∙ next_image (λ x. x.now) refs _ u u c.loop-unit-test.true ∙ ap (λ z. after z (string_verdict (u + 1) (drop (u + 1) (map (λ x. x.now) refs)))) (sym c.in_err-check_unit_of_string.ensures))

pub loop-unit-preserved : goal.loop-unit-preserved
loop-unit-preserved c =
    let refs = c.args.images.now in
    let u = c.loop-unit.unit in
    c.loop-unit.invariant ∙ next_image (λ x. x.now) refs _ u u c.loop-unit-test.true ∙ ap (λ z. after z (string_verdict (u + 1) (drop (u + 1) (map (λ x. x.now) refs)))) (sym c.in_ok-check_unit_of_string.ensures)

pub returns : goal.returns
returns c = sym (c.loop-unit.invariant ∙ no_image (λ x. x.now) c.args.images.now c.loop-unit.unit c.loop-unit.unit c.loop-unit-test.false)
