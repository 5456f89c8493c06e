use Rattle.std.proofs.Common.{arith}
use Rattle.check_bytes.proofs.Feeding.{holds_none, holds_all, start_lt}
use Rattle.sectors.proofs.Runs.{feeds}
use Rattle.sectors.proofs.field.right_check.Goals as goal

pub loop-i-init : goal.loop-i-init
loop-i-init g c = rw c.start_register-register.ensures (holds_none _ _ _ (start_lt _ _))

pub loop-i-preserved : goal.loop-i-preserved
loop-i-preserved g c = feeds _ _ _ c.loop-i.register (g.met.R.CheckRule.shaped c.args.scheme.now.rule) c.byte.type_inv c.byte.ensures c.feed-register.ensures c.loop-i.invariant

pub returns : goal.returns
returns g c = grind (arith, holds_all _ _ _ _ _ (g.met.R.CheckRule.shaped c.args.scheme.now.rule) c.loop-i.invariant)
