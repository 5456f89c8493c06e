use Rattle.std.proofs.Common.{arith}
use Rattle.drives.proofs.Pairs.{side_first, side_second, side_neither}
use Rattle.drives.proofs.pair.which_side.Goals as goal

pub returns-then-unit-first : goal.returns-then-unit-first
returns-then-unit-first g c = side_first _ _ c.args.unit (omega arith) (g.met.A.DriveString.sound _).few

pub returns-then-unit-lt8 : goal.returns-then-unit-lt8
returns-then-unit-lt8 g c = side_second _ _ c.args.unit _ c.units-first.ensures c.if-unit-first.false c.if-unit-lt8.true

pub returns-else-unit-lt8 : goal.returns-else-unit-lt8
returns-else-unit-lt8 g c = side_neither _ _ c.args.unit c.if-unit-lt8.false
