use Rattle.std.proofs.Common.{arith}
use Rattle.std.proofs.lemmas.Bool.Decides.{nat_tests}
use Rattle.drives.proofs.geometry.Geometry.new.Goals as goal

pub returns-then-not-contains-3 : goal.returns-then-not-contains-3
returns-then-not-contains-3 c = grind (arith, nat_tests)

pub returns-then-not-contains-4 : goal.returns-then-not-contains-4
returns-then-not-contains-4 c = grind (arith, nat_tests)

pub returns : goal.returns
returns c = grind (arith, nat_tests)

pub invariant_of-result : goal.invariant_of-result
invariant_of-result c = grind (arith, nat_tests)
