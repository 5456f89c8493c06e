use Rattle.std.proofs.Common.{◌≡◌, take}
use Rattle.registers.specs.Buffers.{held}
use Rattle.registers.proofs.buffer.Buffer.of.Given as goal

abbrev pub invariant-loop-byte : goal.invariant-loop-byte
invariant-loop-byte l = held l.buffer ≡ take 8 (take l.byte-index l.bytes)
