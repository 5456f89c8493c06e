-- Bytes that say a plan are that plan's bytes, with padding.
use Rattle.std.proofs.Common.{◌≡◌, ℕ, zero, suc, ◌+◌, ◌*◌, ◌/◌, ◌%◌, ◌<◌, ◌≤◌, not, cond, eqb, List, [], ◌∷◌, ◌++◌, length, get_or, drop, replicate, Some, None, Ok, Err, Option, Result, sym, refl, ap, ◌∙◌, subst, arith}
use Rattle.std.proofs.ByRecursion.{All-get_or}
use Rattle.std.proofs.lemmas.List.{drop-drop, drop_at}
use Rattle.std.proofs.lemmas.Bool.Decides.{nat_tests}
use Rattle.plans.specs.declared.fault.PlanFault.{PlanFault}
use Rattle.plans.specs.declared.stage.Movement.{Movement}
use Rattle.plans.specs.declared.stage.Stage.{Stage}
use Rattle.plans.specs.Stages.{movement_code, movement_of}
use Rattle.plans.specs.Rules.{PlanData, Legal, fault_in, answer}
use Rattle.plans.specs.Bytes.{stages_bytes, encoded, with_stage, stages_in, stray, end_of, when_padded, with_stages, decoded}
use Rattle.plans.specs.Theorems.{AcceptedIsAPlan}
use Rattle.plans.proofs.Back.{length_stages_bytes}
use Rattle.plans.proofs.Heads.{plan_with}
use Rattle.plans.proofs.Verdicts.{tests_are_the_rules}

-- the tests of the header that were passed on the way to an answer
header_passed : (bs : List ℕ) (p : PlanData) → decoded bs ≡ Ok p →
    9 ≤ length bs × (get_or bs 0 0 ≡ 0x53) × (get_or bs 1 0 ≡ 0x50) × (get_or bs 2 0 ≡ 1)
    × (with_stages bs (stages_in (get_or bs 8 0) 1 (drop 9 bs)) ≡ Ok p)
header_passed bs p e = grind (arith, nat_tests)

-- the padding and the rules that were passed on the way to an answer
padding_passed : (o : Option ℕ) (q p : PlanData) (t : Option PlanFault) → when_padded o (answer q t) ≡ Ok p →
    (o ≡ None) × (t ≡ None) × (q ≡ p)
padding_passed None q p None e = (refl, refl, cc)
padding_passed None q p (Some f) e = absurd cc
padding_passed (Some i) q p t e = absurd cc

stages_passed : (bs : List ℕ) (r : Result (List Stage) PlanFault) (p : PlanData) → with_stages bs r ≡ Ok p →
    (ss : List Stage) × (r ≡ Ok ss) × (with_stages bs (Ok ss) ≡ Ok p)
stages_passed bs (Ok ss) p e = (ss, refl, e)
stages_passed bs (Err f) p e = absurd cc

-- a byte that stands for a movement is its code
movement_known : (b : ℕ) (m : Movement) → movement_of b ≡ Some m → b ≡ movement_code m
movement_known b m e = grind (arith, nat_tests)

stage_front : (o : Option Movement) (k b g i : ℕ) (r : Result (List Stage) PlanFault) (ss : List Stage) →
    with_stage o k b g i r ≡ Ok ss →
    (m : Movement) × (o ≡ Some m) × ((rest : List Stage) × (r ≡ Ok rest) × (ss ≡ record { movement = m; green = g; intergreen = i } ∷ rest))
stage_front None k b g i r ss e = absurd cc
stage_front (Some m) k b g i (Err f) ss e = absurd cc
stage_front (Some m) k b g i (Ok rest) ss e = (m, refl, (rest, refl, cc))

-- stages that were read are the front of the bytes
stages_front : (n k : ℕ) (bs : List ℕ) (ss : List Stage) → stages_in n k bs ≡ Ok ss →
    (length ss ≡ n) × ((tail : List ℕ) × (bs ≡ stages_bytes ss ++ tail))
stages_front zero k bs ss e =
    let h : ss ≡ [] = cc in (ap length h, (bs, ap (λ x. stages_bytes x ++ bs) (sym h)))
stages_front (suc n) k [] ss e = absurd cc
stages_front (suc n) k (b ∷ []) ss e = absurd cc
stages_front (suc n) k (b ∷ g ∷ []) ss e = absurd cc
stages_front (suc n) k (b ∷ g ∷ i ∷ bs) ss e =
    let f = stage_front (movement_of b) k b g i (stages_in n (k + 1) bs) ss e in
    let h = stages_front n (k + 1) bs f.2.0 f.2.1 in
    let code = movement_known b f.0 f.1 in (
      ap length f.2.2 ∙ ap suc h.0,
      (
        h.1.0,
        ap (λ x. x ∷ g ∷ i ∷ bs) code
            ∙ ap (λ x. movement_code f.0 ∷ g ∷ i ∷ x) h.1.1
            ∙ ap (λ x. stages_bytes x ++ h.1.0) (sym f.2.2),
      ),
    )

byte_passed : (b i : ℕ) (o : Option ℕ) → cond (not (eqb b 0)) (Some i) o ≡ None → (b ≡ 0) × (o ≡ None)
byte_passed b i o e = grind (arith, nat_tests)

-- padding is nothing but zeros
padding_zeros : (i : ℕ) (bs : List ℕ) → stray i bs ≡ None → bs ≡ replicate (length bs) 0
padding_zeros i [] e = refl
padding_zeros i (b ∷ bs) e =
    let h = byte_passed b i (stray (i + 1) bs) e in
    ap (λ x. x ∷ bs) h.0 ∙ ap (λ x. 0 ∷ x) (padding_zeros (i + 1) bs h.1)

front_nine : (bs : List ℕ) → 9 ≤ length bs →
    bs
    ≡ get_or bs 0 0 ∷ get_or bs 1 0 ∷ get_or bs 2 0 ∷ get_or bs 3 0 ∷ get_or bs 4 0 ∷ get_or bs 5 0 ∷ get_or bs 6 0 ∷ get_or bs 7 0 ∷ get_or bs 8 0 ∷ drop 9 bs
front_nine [] h = absurd (omega arith)
front_nine (a ∷ []) h = absurd (omega arith)
front_nine (a ∷ b ∷ []) h = absurd (omega arith)
front_nine (a ∷ b ∷ d ∷ []) h = absurd (omega arith)
front_nine (a ∷ b ∷ d ∷ e ∷ []) h = absurd (omega arith)
front_nine (a ∷ b ∷ d ∷ e ∷ f ∷ []) h = absurd (omega arith)
front_nine (a ∷ b ∷ d ∷ e ∷ f ∷ g ∷ []) h = absurd (omega arith)
front_nine (a ∷ b ∷ d ∷ e ∷ f ∷ g ∷ i ∷ []) h = absurd (omega arith)
front_nine (a ∷ b ∷ d ∷ e ∷ f ∷ g ∷ i ∷ j ∷ []) h = absurd (omega arith)
front_nine (a ∷ b ∷ d ∷ e ∷ f ∷ g ∷ i ∷ j ∷ k ∷ bs) h = refl

-- the header and the stages that were read, and the zeros after them, are all of the bytes
whole : (bs : List ℕ) (ss : List Stage) → 9 ≤ length bs → get_or bs 4 0 < 256 →
    get_or bs 0 0 ≡ 0x53 → get_or bs 1 0 ≡ 0x50 → get_or bs 2 0 ≡ 1 →
    stages_in (get_or bs 8 0) 1 (drop 9 bs) ≡ Ok ss → stray (end_of bs) (drop (end_of bs) bs) ≡ None →
    (k : ℕ) × (bs ≡ encoded (plan_with bs ss) ++ replicate k 0)
whole bs ss long low s p v r z =
    let f = stages_front (get_or bs 8 0) 1 (drop 9 bs) ss r in
    let tail = f.1.0 in
    let last : drop (end_of bs) bs ≡ tail =
    sym (drop-drop (3 * get_or bs 8 0) 9 bs)
    ∙ ap (drop (3 * get_or bs 8 0)) f.1.1
    ∙ drop_at (stages_bytes ss) tail (3 * get_or bs 8 0) (length_stages_bytes ss ∙ ap (λ n. 3 * n) f.0) in
    let zeros : tail ≡ replicate (length tail) 0 = padding_zeros (end_of bs) tail (ap (stray (end_of bs)) (sym last) ∙ z) in
    let high : (get_or bs 3 0 * 256 + get_or bs 4 0) / 256 ≡ get_or bs 3 0 = omega arith in
    let less : (get_or bs 3 0 * 256 + get_or bs 4 0) % 256 ≡ get_or bs 4 0 = omega arith in
    let body : drop 9 bs ≡ stages_bytes ss ++ replicate (length tail) 0 = f.1.1 ∙ ap (λ t. stages_bytes ss ++ t) zeros in
    let count : length ss ≡ get_or bs 8 0 = f.0 in
    let front = front_nine bs long in
    (length tail, cc)

pub accepted_is_a_plan : AcceptedIsAPlan
accepted_is_a_plan bs p bytes e =
    let a = header_passed bs p e in
    let f = stages_passed bs (stages_in (get_or bs 8 0) 1 (drop 9 bs)) p a.4 in
    let g = padding_passed (stray (end_of bs) (drop (end_of bs) bs)) (plan_with bs f.0) p (fault_in (plan_with bs f.0)) f.2 in
    let low : get_or bs 4 0 < 256 = All-get_or (λ x. x < 256) bs 4 0 (omega arith) bytes in
    subst (λ q. Legal q × ((k : ℕ) × (bs ≡ encoded q ++ replicate k 0))) g.2
    ((tests_are_the_rules (plan_with bs f.0)).0 g.1, whole bs f.0 a.0 low a.1 a.2 a.3 f.1 g.0)
