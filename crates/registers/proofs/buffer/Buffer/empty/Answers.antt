use Rattle.std.proofs.Common.{refl}
use Rattle.registers.specs.Buffers.{held}
use Rattle.registers.proofs.buffer.Buffer.empty.Goals as goal

pub returns : goal.returns
unfolding held
returns c = refl
