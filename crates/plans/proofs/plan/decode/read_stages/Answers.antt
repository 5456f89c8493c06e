use Rattle.std.proofs.Common.{◌≡◌, suc, ◌+◌, ◌-◌, ◌<◌, ◌≤◌, length, Ok, Err, vec_items, sym, ap, ◌∙◌, inr, arith, ltb-false, ltb-true}
use native.Mathlib.Nat.{sub-zero}
use Rattle.std.proofs.lemmas.List.{append-nil}
use Rattle.std.proofs.lemmas.Result.{err_from_is_err_and}
use Rattle.plans.specs.Bytes.{stages_in}
use Rattle.plans.proofs.Scans.{onto, onto_nil, stages_short, stages_broken_off, stages_read}
use Rattle.plans.proofs.plan.decode.read_stages.Goals as goal

pub loop-i-init : goal.loop-i-init
loop-i-init c =
    ap (λ xs. onto xs (stages_in (c.args.count - 0) 1 c.args.bytes.now)) c.new-stages.ensures.items
    ∙ onto_nil (stages_in (c.args.count - 0) 1 c.args.bytes.now)
    ∙ ap (λ n. stages_in n 1 c.args.bytes.now) (sub-zero c.args.count)

pub returns-in_default : goal.returns-in_default
returns-in_default c =
    let few : length c.loop-i.rest.now < 3 = omega (arith, ltb-true) in
    let e : c.args.count - c.loop-i.i ≡ suc (c.args.count - (c.loop-i.i + 1)) = omega arith in
    inr
    (sym (ap (onto (vec_items c.loop-i.stages)) (stages_short _ _ (c.loop-i.i + 1) c.loop-i.rest.now e few))
    ∙ c.loop-i.invariant)

pub returns-in_err-movement : goal.returns-in_err-movement
returns-in_err-movement c =
    let enough : 3 ≤ length c.loop-i.rest.now = omega (arith, ltb-false) in
    let e : c.args.count - c.loop-i.i ≡ suc (c.args.count - (c.loop-i.i + 1)) = omega arith in
    let p = err_from_is_err_and c.from_residual.result c.from_residual.ensures.1 in
    rw (p.1 ∙ ap Err p.2)
    (inr
    (sym
    (ap (onto (vec_items c.loop-i.stages))
    (stages_broken_off _ _ (c.loop-i.i + 1) c.loop-i.rest.now _ _ e enough c.read_movement.ensures c.in_err-movement.was))
    ∙ c.loop-i.invariant))

pub loop-i-preserved : goal.loop-i-preserved
loop-i-preserved c =
    let enough : 3 ≤ length c.loop-i.rest.now = omega (arith, ltb-false) in
    let e : c.args.count - c.loop-i.i ≡ suc (c.args.count - (c.loop-i.i + 1)) = omega arith in
    stages_read _ _ (c.loop-i.i + 1) c.loop-i.rest.now _ _ (vec_items c.loop-i.stages) (vec_items c.push.new.self)
    e enough c.read_movement.ensures c.in_ok-movement.was c.in_ok-push.ensures.items
    ∙ c.loop-i.invariant

pub returns : goal.returns
returns c =
    let e : c.args.count - c.loop-i.i ≡ 0 = omega arith in
    ap Ok (sym (append-nil (vec_items c.loop-i.stages)))
    ∙ sym (ap (λ n. onto (vec_items c.loop-i.stages) (stages_in n (c.loop-i.i + 1) c.loop-i.rest.now)) e)
    ∙ c.loop-i.invariant
