-- What is decided once a header is known to be one.
use Rattle.std.proofs.Common.{◌≡◌, ℕ, ◌+◌, ◌-◌, ◌*◌, ◌≤◌, ◌⊎◌, true, false, not, ◌&&◌, eqb, List, length, get_or, take, drop, Ok, Err, Option, Result, sym, ap, ◌∙◌, inl, inr, ⊎_elim, arith}
use Rattle.std.proofs.lemmas.List.{take_rest}
use Rattle.std.proofs.lemmas.Bool.Decides.{nat_tests}
use Rattle.plans.specs.declared.fault.PlanFault.{PlanFault}
use Rattle.plans.specs.declared.fault.PlanFault.TheVariants.{Memory}
use Rattle.plans.specs.declared.plan.Plan.{Plan}
use Rattle.plans.specs.declared.stage.Stage.{Stage}
use Rattle.plans.specs.Rules.{PlanData, judged}
use Rattle.plans.specs.Bytes.{decoded, stages_in, stray, end_of, when_padded, with_stages}
use Rattle.plans.specs.Told.{plan_of, told, Answered}

-- the plan that a header and stages make
abbrev pub plan_with : List ℕ → List Stage → PlanData
plan_with bs ss =
    record { junction = get_or bs 3 0 * 256 + get_or bs 4 0; number = get_or bs 5 0; cycle = get_or bs 6 0; offset = get_or bs 7 0; stages = ss }

module _ (bs : List ℕ) (long : 9 ≤ length bs) (mark : false ≡ not (eqb (get_or bs 0 0) 0x53 && (eqb (get_or bs 1 0) 0x50 && true))) (v : get_or bs 2 0 ≡ 1) where
  pub decoded_head : decoded bs ≡ with_stages bs (stages_in (get_or bs 8 0) 1 (drop 9 bs))
  decoded_head = grind (arith, nat_tests)

  pub decoded_read : (r : Result (List Stage) PlanFault) →
      r ≡ stages_in (get_or bs 8 0) 1 (take (length bs - 9) (drop 9 bs)) → decoded bs ≡ with_stages bs r
  decoded_read r e =
      decoded_head ∙ ap (with_stages bs) (sym (e ∙ ap (stages_in (get_or bs 8 0) 1) (take_rest bs 9)))

  pub broke_off : (r : Result Plan PlanFault) (f : PlanFault) → r ≡ Err f →
      (f ≡ Memory) ⊎ (Err f ≡ stages_in (get_or bs 8 0) 1 (take (length bs - 9) (drop 9 bs))) → Answered plan_of r (decoded bs)
  broke_off r f e o = rw e (⊎_elim (λ m. inl m) (λ h. inr (sym (decoded_read (Err f) h))) o)

  module _ (ss : List Stage) (h : Ok ss ≡ stages_in (get_or bs 8 0) 1 (take (length bs - 9) (drop 9 bs))) where
    pub decoded_padding : (end : ℕ) (o : Option ℕ) → end ≡ end_of bs → o ≡ stray end (drop end bs) →
        decoded bs ≡ when_padded o (judged (plan_with bs ss))
    decoded_padding end o f e =
        decoded_read (Ok ss) h
        ∙ ap (λ x. when_padded x (judged (plan_with bs ss))) (sym (e ∙ ap (λ n. stray n (drop n bs)) f))

-- the plan that a header and stages make, with the junction's number as the code has it
pub judged_with : (bs : List ℕ) (ss : List Stage) (j : ℕ) → j ≡ get_or bs 3 0 * 256 + get_or bs 4 0 →
    judged (record { junction = j; number = get_or bs 5 0; cycle = get_or bs 6 0; offset = get_or bs 7 0; stages = ss }) ≡ judged (plan_with bs ss)
judged_with bs ss j e =
    ap (λ x. judged (record { junction = x; number = get_or bs 5 0; cycle = get_or bs 6 0; offset = get_or bs 7 0; stages = ss })) e

-- an answer without want of memory
pub answered_told : (r : Result Plan PlanFault) (wanted : Result PlanData PlanFault) → told r ≡ wanted → Answered plan_of r wanted
answered_told (Ok p) wanted e = e
answered_told (Err f) wanted e = inr e
