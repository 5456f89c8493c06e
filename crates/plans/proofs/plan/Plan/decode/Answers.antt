use Rattle.std.proofs.Common.{◌≤◌, length, Err, vec_items, sym, ap, ◌∙◌, inr, arith, ltb-false}
use Rattle.std.proofs.lemmas.Result.{err_from_is_err_and}
use Rattle.plans.proofs.Heads.{broke_off, decoded_padding, judged_with, answered_told}
use Rattle.plans.proofs.plan.Plan.decode.Goals as goal

pub returns-in_err-stages : goal.returns-in_err-stages
returns-in_err-stages c =
    let long : 9 ≤ length c.args.bytes.now = omega (arith, ltb-false) in
    let p = err_from_is_err_and c.from_residual.result c.from_residual.ensures.1 in
    broke_off c.args.bytes.now long c.if-ne.ensures c.if-version-ne-VERSION.false
    c.from_residual.result c.in_err-stages.field-0.0 (p.1 ∙ ap Err p.2) c.in_err-stages.ensures

pub returns-in-Some : goal.returns-in-Some
returns-in-Some c =
    let long : 9 ≤ length c.args.bytes.now = omega (arith, ltb-false) in
    inr
    (sym
    (decoded_padding c.args.bytes.now long c.if-ne.ensures c.if-version-ne-VERSION.false
    _ c.in_ok-stages.ensures _ _ c.end_of.ensures c.in-Some.ensures))

pub returns : goal.returns
returns c =
    let long : 9 ≤ length c.args.bytes.now = omega (arith, ltb-false) in
    answered_told c.new.result _
    (c.new.ensures
    ∙ judged_with c.args.bytes.now (vec_items c.in_ok-stages.stages) _ c.from_be_bytes-junction.ensures
    ∙ sym
    (decoded_padding c.args.bytes.now long c.if-ne.ensures c.if-version-ne-VERSION.false
    _ c.in_ok-stages.ensures _ _ c.end_of.ensures c.in_default-first_stray.ensures))
