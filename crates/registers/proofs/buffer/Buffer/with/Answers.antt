use Rattle.std.proofs.Common.{◌≡◌, ◌<◌, length, ◌∙◌, arith, rules}
use Rattle.std.proofs.lemmas.List.{take_more_set}
use Rattle.registers.specs.Buffers.{held}
use Rattle.registers.proofs.Held.{held_length, full_stays, free_takes}
use Rattle.registers.proofs.Places.{more_placed}
use Rattle.registers.proofs.buffer.Buffer.with.Goals as goal

pub returns-then-self-ge8 : goal.returns-then-self-ge8
returns-then-self-ge8 c =
    let l : length c.args.self.bytes ≡ 8 = search rules in
    full_stays (held c.args.self) c.args.byte (omega (arith, held_length c.args.self l))

pub invariant_of-result : goal.invariant_of-result
invariant_of-result c =
    let b = c.args.self in
    let whole : length b.bytes ≡ 8 = search rules in
    record { few = omega arith; padded = more_placed b.bytes b.count c.args.byte (omega arith) whole b.padded }

pub returns : goal.returns
unfolding held
returns c =
    let l : length c.args.self.bytes ≡ 8 = search rules in
    let k : c.args.self.count < length c.args.self.bytes = omega arith in
    take_more_set c.args.self.bytes c.args.self.count c.args.byte k
    ∙ free_takes (held c.args.self) c.args.byte (omega (arith, held_length c.args.self l))
