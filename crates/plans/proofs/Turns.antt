-- One turn of each loop over stages.
use Rattle.std.proofs.Common.{◌≡◌, ℕ, ◌+◌, ◌<◌, ◌≤◌, List, ◌++◌, length, get_or, drop, Some, None, Option, sym, ap, ◌∙◌}
use Rattle.std.proofs.lemmas.List.{at_drop_more, at_drop_all, append_assoc, append-nil}
use Rattle.std.proofs.lemmas.List.Sums.{sum_by-cons}
use Rattle.plans.specs.declared.fault.PlanFault.{PlanFault}
use Rattle.plans.specs.declared.stage.Movement.TheVariants.{MainRoad}
use Rattle.plans.specs.declared.stage.Stage.{Stage}
use Rattle.plans.specs.Stages.{stage_seconds}
use Rattle.plans.specs.Bytes.{stage_bytes, stages_bytes}
use Rattle.plans.specs.Rules.{or_else, times_fault, stage_fault, total}

-- what an element past the end reads as
abbrev pub blank : Stage
blank = record { movement = MainRoad; green = 0; intergreen = 0 }

module _ (xs : List Stage) (i : ℕ) (inside : i < length xs) where
  -- the i-th stage decides before those after it
  pub stage_fault_turn : (n : ℕ) →
      stage_fault n (drop i xs) ≡ or_else (times_fault n (get_or xs i blank)) (stage_fault (n + 1) (drop (i + 1) xs))
  stage_fault_turn n = at_drop_more (stage_fault n) xs i blank inside

  pub stage_fault_found : (n : ℕ) (o : Option PlanFault) (f : PlanFault) →
      o ≡ times_fault n (get_or xs i blank) → o ≡ Some f → Some f ≡ stage_fault n (drop i xs)
  stage_fault_found n o f e t =
      sym (stage_fault_turn n ∙ ap (λ x. or_else x (stage_fault (n + 1) (drop (i + 1) xs))) (sym e ∙ t))

  pub stage_fault_more : (n : ℕ) (o : Option PlanFault) →
      o ≡ times_fault n (get_or xs i blank) → o ≡ None → stage_fault (n + 1) (drop (i + 1) xs) ≡ stage_fault n (drop i xs)
  stage_fault_more n o e t =
      sym (stage_fault_turn n ∙ ap (λ x. or_else x (stage_fault (n + 1) (drop (i + 1) xs))) (sym e ∙ t))

  pub total_more : total (drop i xs) ≡ stage_seconds (get_or xs i blank) + total (drop (i + 1) xs)
  total_more = at_drop_more total xs i blank inside ∙ sum_by-cons stage_seconds (get_or xs i blank) (drop (i + 1) xs)

  -- one more stage is written
  pub bytes_more : (v w b : List ℕ) → w ≡ v ++ b → b ≡ stage_bytes (get_or xs i blank) →
      w ++ stages_bytes (drop (i + 1) xs) ≡ v ++ stages_bytes (drop i xs)
  bytes_more v w b e f =
      ap (λ u. u ++ stages_bytes (drop (i + 1) xs)) (e ∙ ap (λ u. v ++ u) f)
      ∙ append_assoc v (stage_bytes (get_or xs i blank)) (stages_bytes (drop (i + 1) xs))
      ∙ ap (λ u. v ++ u) (sym (at_drop_more stages_bytes xs i blank inside))

-- all stages are written
pub bytes_all : (v : List ℕ) (xs : List Stage) (i : ℕ) → length xs ≤ i → v ≡ v ++ stages_bytes (drop i xs)
bytes_all v xs i h = sym (append-nil v) ∙ ap (λ u. v ++ u) (sym (at_drop_all stages_bytes xs i h))
