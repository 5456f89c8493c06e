-- The table is the list of remainders that antt computes.
use Rattle.std.proofs.Common.{rules}
use Rattle.check_bytes.specs.Polynomials.{remainder}
use Rattle.check_bytes.specs.Rules.{crc16}
use Rattle.check_bytes.proofs.Wide.{entry_is}
use Rattle.check_bytes.proofs.crc.left_by.Goals as goal

pub returns : goal.returns
unfolding remainder
returns c = entry_is crc16 16 c.args.byte (search rules)
