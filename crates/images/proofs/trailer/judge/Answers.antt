use Rattle.std.proofs.Common.{arith}
use Rattle.std.proofs.lemmas.Bool.Decides.{nat_tests}
use Rattle.images.proofs.Bounds.{made}
use Rattle.images.proofs.trailer.judge.Goals as goal

pub returns-then-distance-area : goal.returns-then-distance-area
returns-then-distance-area c =
    let f = c.args.fields in
    grind (made c.new.result _ f.cylinders f.heads f.slots f.length c.new.ensures c.map_err.ensures.cases c.in_ok-geometry.was, arith, nat_tests)

pub returns : goal.returns
returns c =
    let f = c.args.fields in
    grind (made c.new.result _ f.cylinders f.heads f.slots f.length c.new.ensures c.map_err.ensures.cases c.in_ok-geometry.was, arith, nat_tests)
