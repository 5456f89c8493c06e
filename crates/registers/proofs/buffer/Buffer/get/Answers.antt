use Rattle.std.proofs.Common.{rules}
use Rattle.registers.specs.Buffers.{held}
use Rattle.registers.proofs.Places.{read_placed}
use Rattle.registers.proofs.buffer.Buffer.get.Goals as goal

pub returns : goal.returns
unfolding held
returns c = rw (← read_placed c.args.self.bytes c.args.self.count c.args.i c.args.self.padded) (search rules)
