-- What a check's answer says.
use Rattle.std.specs.Prelude.{Ok, Err, Result}
use Rattle.units.specs.declared.layout.Layout.{Layout}
use Rattle.images.specs.declared.trailer.Checked.{Checked}

-- where the slots of a checked image lie
abbrev pub layout_of : Checked → Layout
layout_of k =
    record { first = k.first; cylinders = k.geometry.cylinders; heads = k.geometry.heads; slots = k.geometry.slots; length = k.geometry.length }

-- an answer as the verdict has it, whatever its refusals are
abbrev pub told : {E : Type 0} → Result Checked E → Result Layout E
told (Ok k) = Ok (layout_of k)
told (Err e) = Err e
