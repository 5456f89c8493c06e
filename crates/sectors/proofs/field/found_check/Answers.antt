use Rattle.std.proofs.Common.{◌+◌, arith}
use Rattle.sectors.proofs.Runs.{spells, few}
use Rattle.sectors.proofs.field.found_check.Goals as goal

pub overflow_mul-found : goal.overflow_mul-found
overflow_mul-found g c = omega (arith, few _ _ _ c.loop-i.found (omega arith) c.loop-i.invariant)

pub overflow_add-found : goal.overflow_add-found
overflow_add-found g c = omega (arith, few _ _ _ c.loop-i.found (omega arith) c.loop-i.invariant)

pub loop-i-preserved : goal.loop-i-preserved
loop-i-preserved g c = spells _ _ _ (c.from.result + c.from-in-loop-i.result) (omega arith) (omega arith) (cc) c.loop-i.invariant
