use Rattle.std.proofs.Common.{◌≡◌, length, arith, rules}
use Rattle.registers.specs.Buffers.{held}
use Rattle.registers.proofs.Held.{shifted}
use Rattle.registers.proofs.Places.{rest_counted}
use Rattle.registers.proofs.buffer.Buffer.rest.Goals as goal

pub invariant_of-result : goal.invariant_of-result
invariant_of-result c =
    let b = c.args.self in
    let whole : length b.bytes ≡ 8 = search rules in
    record {
      few = omega (arith, b.few, c.saturating_sub.ensures);
      padded = rest_counted b.bytes b.count _ whole b.few c.saturating_sub.ensures b.padded;
    }

pub returns : goal.returns
unfolding held
returns c =
    let whole : length c.args.self.bytes ≡ 8 = search rules in
    rw c.saturating_sub.ensures (shifted c.args.self.bytes c.args.self.count whole c.args.self.few)
