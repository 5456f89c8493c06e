-- The first slot that passes a test.
use Rattle.std.proofs.Common.{◌≡◌, ℕ, suc, ◌+◌, ◌-◌, ◌<◌, ◌≤◌, Bool, true, false, Some, None, arith}
use Rattle.std.proofs.lemmas.Bool.{cond-true, cond-false}
use Rattle.sectors.specs.Search.{first_slot}

module _ (test : ℕ → Bool) (count s : ℕ) where
  pub first_none : count ≤ s → first_slot test (count - s) s ≡ None
  unfolding first_slot
  first_none l = let e : count - s ≡ 0 = omega arith in rw e

  pub first_here : s < count → test s ≡ true → first_slot test (count - s) s ≡ Some (record { 0 = s })
  unfolding first_slot
  first_here l t = let e : count - s ≡ suc (count - (s + 1)) = omega arith in rw e (cond-true _ _ _ t)

  pub first_later : s < count → test s ≡ false → first_slot test (count - s) s ≡ first_slot test (count - (s + 1)) (s + 1)
  unfolding first_slot
  first_later l t = let e : count - s ≡ suc (count - (s + 1)) = omega arith in rw e (cond-false _ _ _ t)

-- what a search from slot to slot needs
pub ruleset first_steps = (first_none, first_here, first_later)
