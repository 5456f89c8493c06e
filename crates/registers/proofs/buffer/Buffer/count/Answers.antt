use Rattle.std.proofs.Common.{◌≡◌, length, sym, rules}
use Rattle.registers.proofs.Held.{held_few, held_length}
use Rattle.registers.proofs.buffer.Buffer.count.Goals as goal

pub returns-clause-value : goal.returns-clause-value
returns-clause-value c =
    let l : length c.args.self.bytes ≡ 8 = search rules in
    sym (held_length c.args.self l)

pub returns-clause-few : goal.returns-clause-few
returns-clause-few c = held_few c.args.self
