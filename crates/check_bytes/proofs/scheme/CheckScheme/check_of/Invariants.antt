use Rattle.std.proofs.Common.{take}
use Rattle.check_bytes.proofs.Feeding.{Holds}
use Rattle.check_bytes.proofs.scheme.CheckScheme.check_of.Given as goal

abbrev pub invariant-loop-byte : goal.invariant-loop-byte
invariant-loop-byte g l =
    Holds (g.R.CheckRule.generator l.self.rule) (g.R.CheckRule.degree l.self.rule) l.initial.register (take l.byte-index l.bytes) l.register
