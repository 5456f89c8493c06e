-- One turn of each loop over bytes.
use Rattle.std.proofs.Common.{◌≡◌, ℕ, suc, ◌+◌, ◌-◌, ◌<◌, ◌≤◌, Bool, true, false, not, cond, eqb, List, [], ◌∷◌, ◌++◌, length, get_or, take, drop, Some, None, Ok, Err, Option, Result, sym, refl, ap, ◌∙◌, arith}
use Rattle.std.proofs.lemmas.List.{at_drop_more, append_assoc, take_rest}
use Rattle.std.proofs.lemmas.Bool.{cond-true, cond-false, eq-eqb, ne_eqb}
use Rattle.std.specs.Option.{ok_or, option_map}
use Rattle.plans.specs.declared.fault.PlanFault.{PlanFault}
use Rattle.plans.specs.declared.fault.PlanFault.TheVariants.{Short, UnknownMovement}
use Rattle.plans.specs.declared.stage.Movement.{Movement}
use Rattle.plans.specs.declared.stage.Stage.{Stage}
use Rattle.plans.specs.Stages.{movement_of}
use Rattle.plans.specs.Bytes.{stray, in_front, with_stage, stages_in}

module _ (bs : List ℕ) (i : ℕ) (inside : i < length bs) where
  stray_turn : stray i (drop i bs) ≡ cond (not (eqb (get_or bs i 0) 0)) (Some i) (stray (i + 1) (drop (i + 1) bs))
  stray_turn = at_drop_more (stray i) bs i 0 inside

  pub stray_found : (get_or bs i 0 ≡ 0 → ⊥) → Some i ≡ stray i (drop i bs)
  stray_found ne = sym (stray_turn ∙ cond-true _ _ _ (ap not (ne_eqb (get_or bs i 0) 0 ne)))

  pub stray_more : get_or bs i 0 ≡ 0 → stray (i + 1) (drop (i + 1) bs) ≡ stray i (drop i bs)
  stray_more e = sym (stray_turn ∙ cond-false _ _ _ (ap not (eq-eqb (get_or bs i 0) 0 e)))

-- a test that was passed at a later start
stray_choice : (t : Bool) (i j : ℕ) (o p : Option ℕ) → o ≡ option_map (λ k. i + k) p →
    cond t (Some (i + j)) o ≡ option_map (λ k. i + k) (cond t (Some j) p)
stray_choice true i j o p e = refl
stray_choice false i j o p e = e

-- counted from a later start
pub stray_from : (i j : ℕ) (bs : List ℕ) → stray (i + j) bs ≡ option_map (λ k. i + k) (stray j bs)
stray_from i j [] = refl
stray_from i j (b ∷ bs) =
    let next : i + j + 1 ≡ i + (j + 1) = omega arith in
    stray_choice (not (eqb b 0)) i j _ _ (ap (λ n. stray n bs) next ∙ stray_from i (j + 1) bs)

-- stages that were read, and the answer to the rest
abbrev pub onto : List Stage → Result (List Stage) PlanFault → Result (List Stage) PlanFault
onto xs (Ok ss) = Ok (xs ++ ss)
onto xs (Err f) = Err f

pub onto_nil : (r : Result (List Stage) PlanFault) → onto [] r ≡ r
onto_nil (Ok ss) = refl
onto_nil (Err f) = refl

pub onto_next : (xs : List Stage) (s : Stage) (r : Result (List Stage) PlanFault) →
    onto xs (in_front s r) ≡ onto (xs ++ s ∷ []) r
onto_next xs s (Ok ss) = ap Ok (sym (append_assoc xs (s ∷ []) ss))
onto_next xs s (Err f) = refl

pub stages_short : (m n k : ℕ) (bs : List ℕ) → m ≡ suc n → length bs < 3 → stages_in m k bs ≡ Err Short
stages_short m n k [] e h = ap (λ x. stages_in x k []) e
stages_short m n k (a ∷ []) e h = ap (λ x. stages_in x k (a ∷ [])) e
stages_short m n k (a ∷ b ∷ []) e h = ap (λ x. stages_in x k (a ∷ b ∷ [])) e
stages_short m n k (a ∷ b ∷ d ∷ bs) e h = absurd (omega arith)

pub stages_turn : (m n k : ℕ) (bs : List ℕ) → m ≡ suc n → 3 ≤ length bs →
    stages_in m k bs
    ≡ with_stage (movement_of (get_or bs 0 0)) k (get_or bs 0 0) (get_or bs 1 0) (get_or bs 2 0) (stages_in n (k + 1) (drop 3 bs))
stages_turn m n k [] e h = absurd (omega arith)
stages_turn m n k (a ∷ []) e h = absurd (omega arith)
stages_turn m n k (a ∷ b ∷ []) e h = absurd (omega arith)
stages_turn m n k (a ∷ b ∷ d ∷ bs) e h = ap (λ x. stages_in x k (a ∷ b ∷ d ∷ bs)) e

-- a byte that stands for no movement
pub stages_unknown : (m n k : ℕ) (bs : List ℕ) (o : Option Movement) → m ≡ suc n → 3 ≤ length bs →
    o ≡ movement_of (get_or bs 0 0) → o ≡ None → stages_in m k bs ≡ Err (UnknownMovement k (get_or bs 0 0))
stages_unknown m n k bs o e h f t =
    stages_turn m n k bs e h
    ∙ ap (λ v. with_stage v k (get_or bs 0 0) (get_or bs 1 0) (get_or bs 2 0) (stages_in n (k + 1) (drop 3 bs))) (sym f ∙ t)

-- one more stage is read; w is what was read, and the rest is as the code cuts it
pub stages_more : (m n k : ℕ) (bs : List ℕ) (o : Option Movement) (v : Movement) (xs w : List Stage) → m ≡ suc n → 3 ≤ length bs →
    o ≡ movement_of (get_or bs 0 0) → o ≡ Some v →
    w ≡ xs ++ record { movement = v; green = get_or bs 1 0; intergreen = get_or bs 2 0 } ∷ [] →
    onto w (stages_in n (k + 1) (take (length bs - 3) (drop 3 bs))) ≡ onto xs (stages_in m k bs)
stages_more m n k bs o v xs w e h f t g =
    ap (λ rest. onto w (stages_in n (k + 1) rest)) (take_rest bs 3)
    ∙ ap (λ u. onto u (stages_in n (k + 1) (drop 3 bs))) g
    ∙ sym
    (ap (onto xs)
    (stages_turn m n k bs e h
    ∙ ap (λ u. with_stage u k (get_or bs 0 0) (get_or bs 1 0) (get_or bs 2 0) (stages_in n (k + 1) (drop 3 bs))) (sym f ∙ t))
    ∙ onto_next xs _ (stages_in n (k + 1) (drop 3 bs)))

-- what a stage whose movement was read as r adds to those that follow it
with_unknown : (o : Option Movement) (k b g i : ℕ) (later : Result (List Stage) PlanFault) (r : Result Movement PlanFault) (f : PlanFault) →
    r ≡ ok_or o (UnknownMovement k b) → r ≡ Err f → with_stage o k b g i later ≡ Err f
with_unknown None k b g i later r f e h = cc
with_unknown (Some m) k b g i later r f e h = absurd cc

with_known : (o : Option Movement) (k b g i : ℕ) (later : Result (List Stage) PlanFault) (r : Result Movement PlanFault) (m : Movement) →
    r ≡ ok_or o (UnknownMovement k b) → r ≡ Ok m →
    with_stage o k b g i later ≡ in_front (record { movement = m; green = g; intergreen = i }) later
with_known None k b g i later r m e h = absurd cc
with_known (Some n) k b g i later r m e h = cc

-- a movement whose reading broke off
pub stages_broken_off : (m n k : ℕ) (bs : List ℕ) (r : Result Movement PlanFault) (f : PlanFault) → m ≡ suc n → 3 ≤ length bs →
    r ≡ ok_or (movement_of (get_or bs 0 0)) (UnknownMovement k (get_or bs 0 0)) → r ≡ Err f → stages_in m k bs ≡ Err f
stages_broken_off m n k bs r f e h s t = stages_turn m n k bs e h ∙ with_unknown _ k _ _ _ _ r f s t

-- the same by the movement that was read
pub stages_read : (m n k : ℕ) (bs : List ℕ) (r : Result Movement PlanFault) (v : Movement) (xs w : List Stage) → m ≡ suc n → 3 ≤ length bs →
    r ≡ ok_or (movement_of (get_or bs 0 0)) (UnknownMovement k (get_or bs 0 0)) → r ≡ Ok v →
    w ≡ xs ++ record { movement = v; green = get_or bs 1 0; intergreen = get_or bs 2 0 } ∷ [] →
    onto w (stages_in n (k + 1) (take (length bs - 3) (drop 3 bs))) ≡ onto xs (stages_in m k bs)
stages_read m n k bs r v xs w e h s t g =
    ap (λ rest. onto w (stages_in n (k + 1) rest)) (take_rest bs 3)
    ∙ ap (λ u. onto u (stages_in n (k + 1) (drop 3 bs))) g
    ∙ sym (ap (onto xs) (stages_turn m n k bs e h ∙ with_known _ k _ _ _ _ r v s t) ∙ onto_next xs _ (stages_in n (k + 1) (drop 3 bs)))
