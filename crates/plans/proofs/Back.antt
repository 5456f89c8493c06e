-- The bytes of a legal plan say that plan.
use Rattle.std.proofs.Common.{◌≡◌, ℕ, zero, suc, ◌+◌, ◌*◌, List, [], ◌∷◌, ◌++◌, length, drop, replicate, Some, None, Ok, sym, refl, ap, ◌∙◌, arith}
use native.Mathlib.Nat.{mod-add-div'}
use Rattle.std.proofs.lemmas.List.{drop-drop, drop_at}
use Rattle.plans.specs.declared.stage.Movement.{Movement}
use Rattle.plans.specs.declared.stage.Movement.TheVariants.{MainRoad, SideRoad, TurningTraffic, Pedestrians}
use Rattle.plans.specs.declared.stage.Stage.{Stage}
use Rattle.plans.specs.Stages.{movement_code, movement_of}
use Rattle.plans.specs.Rules.{PlanData, answer, judged}
use Rattle.plans.specs.Bytes.{stages_bytes, encoded, with_stage, stages_in, stray, end_of, when_padded, with_stages, decoded}
use Rattle.plans.specs.Theorems.{EncodingIsReadBack, BytesTellPlansApart}
use Rattle.plans.proofs.Heads.{plan_with, decoded_head}
use Rattle.plans.proofs.Verdicts.{legal_passed}

movement_back : (m : Movement) → movement_of (movement_code m) ≡ Some m
movement_back MainRoad = refl
movement_back SideRoad = refl
movement_back TurningTraffic = refl
movement_back Pedestrians = refl

stages_back : (ss : List Stage) (k : ℕ) (tail : List ℕ) → stages_in (length ss) k (stages_bytes ss ++ tail) ≡ Ok ss
stages_back [] k tail = refl
stages_back (s ∷ ss) k tail =
    ap (λ m. with_stage m k (movement_code s.movement) s.green s.intergreen (stages_in (length ss) (k + 1) (stages_bytes ss ++ tail)))
    (movement_back s.movement)
    ∙ ap (λ r. with_stage (Some s.movement) k (movement_code s.movement) s.green s.intergreen r) (stages_back ss (k + 1) tail)

pub length_stages_bytes : (ss : List Stage) → length (stages_bytes ss) ≡ 3 * length ss
length_stages_bytes [] = refl
length_stages_bytes (s ∷ ss) = let h = length_stages_bytes ss in omega arith

zeros_pass : (i k : ℕ) → stray i (replicate k 0) ≡ None
zeros_pass i zero = refl
zeros_pass i (suc k) = zeros_pass (i + 1) k

-- a plan's bytes with padding
abbrev padded : PlanData → ℕ → List ℕ
padded p k = encoded p ++ replicate k 0

padding_passes : (p : PlanData) (k : ℕ) → stray (end_of (padded p k)) (drop (end_of (padded p k)) (padded p k)) ≡ None
padding_passes p k =
    ap (stray (9 + 3 * length p.stages))
    (sym (drop-drop (3 * length p.stages) 9 (padded p k))
    ∙ drop_at (stages_bytes p.stages) (replicate k 0) (3 * length p.stages) (length_stages_bytes p.stages))
    ∙ zeros_pass (9 + 3 * length p.stages) k

same_junction : (p : PlanData) (k : ℕ) → plan_with (padded p k) p.stages ≡ p
same_junction p k =
    ap (λ j. record { junction = j; number = p.number; cycle = p.cycle; offset = p.offset; stages = p.stages })
    (omega (arith, mod-add-div' p.junction 256))

pub encoding_is_read_back : EncodingIsReadBack
encoding_is_read_back p k l =
    decoded_head (padded p k) (omega arith) refl refl
    ∙ ap (with_stages (padded p k)) (stages_back p.stages 1 (replicate k 0))
    ∙ ap (λ o. when_padded o (judged (plan_with (padded p k) p.stages))) (padding_passes p k)
    ∙ ap judged (same_junction p k)
    ∙ ap (answer p) (legal_passed p l)

pub bytes_tell_plans_apart : BytesTellPlansApart
bytes_tell_plans_apart p q l m e =
    let same = sym (encoding_is_read_back p 0 l) ∙ ap (λ bs. decoded (bs ++ replicate 0 0)) e ∙ encoding_is_read_back q 0 m in cc
