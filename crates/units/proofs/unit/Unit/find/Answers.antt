use Rattle.std.proofs.Common.{◌+◌, ◌*◌, arith}
use Rattle.std.proofs.lemmas.Bool.Decides.{nat_tests}
use Rattle.drives.specs.Drives.{shape_of}
use Rattle.units.specs.Found.{Standing}
use Rattle.units.proofs.Places.{found, not_found}
use Rattle.units.proofs.unit.Unit.find.Goals as goal

pub returns-then-place-ne0 : goal.returns-then-place-ne0
returns-then-place-ne0 g c =
    not_found _ _ _ _ _ (shape_of c.geometry-g.result) c.size-size.result c.size-size.ensures c.geometry-g.ensures (λ z. let o = c.then-place-ne0.either in grind (arith, nat_tests))

-- the slot that was found
at : (g : _) (c : goal.After-struct_known-4-1 g) → Standing c.args.self.now.state (g.M.Memory.contents c.args.self.now.memory) c.args.place.unit c.args.place.head.0 c.args.place.slot.0 (c.args.self.now.state.layout.first + ((c.stands.result * c.geometry-g.result.heads + c.args.place.head.0) * c.geometry-g.result.slots + c.args.place.slot.0) * (c.geometry-g.result.length + 11))
at g c =
    found _ _ _ _ _ (shape_of c.geometry-g.result) c.size-size.result c.size-size.ensures c.geometry-g.ensures
    c.stands.result (omega (arith, c.size-size.ensures, c.size-size.type_inv)) c.stands.ensures c.geometry-g.result.bounds c.if-place-ne0.false c.if-head-g.false c.if-slot-g.false

pub overflow_mul-result : goal.overflow_mul-result
overflow_mul-result g c = omega (arith, (at g c).room)

pub overflow_add-result-2 : goal.overflow_add-result-2
overflow_add-result-2 g c = omega (arith, (at g c).room)

pub returns : goal.returns
returns g c = at g c
