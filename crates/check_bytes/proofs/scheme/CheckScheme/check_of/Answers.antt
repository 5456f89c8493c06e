use Rattle.std.proofs.Common.{take_all, rules}
use Rattle.check_bytes.proofs.Feeding.{holds_none, holds_more, holds_all, start_lt}
use Rattle.check_bytes.proofs.scheme.CheckScheme.check_of.Goals as goal

pub loop-byte-init : goal.loop-byte-init
loop-byte-init g c = rw c.start_register-register.ensures (holds_none _ _ _ (start_lt c.args.self.now.start _))

pub loop-byte-preserved : goal.loop-byte-preserved
loop-byte-preserved g c =
    rw c.feed-register.ensures (holds_more _ _ _ c.args.bytes.now _ _ (g.met.R.CheckRule.shaped c.args.self.now.rule) c.loop-byte-test.true (search rules) c.loop-byte.invariant)

pub returns : goal.returns
returns g c =
    let held = holds_all _ _ _ _ _ (g.met.R.CheckRule.shaped c.args.self.now.rule) c.loop-byte.invariant in
    rw (← c.start_register-register.ensures, ← take_all _ c.args.bytes.now c.loop-byte-test.false) held
