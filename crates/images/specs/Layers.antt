-- A refused image passed up from image to unit to string.
use Rattle.std.specs.Prelude.{ℕ, ◌+◌, List, [], ◌∷◌, length, Ok, Err, Result}
use Rattle.units.specs.declared.layout.Layout.{Layout}
use Rattle.images.specs.declared.refusal.ImageFault.{ImageFault}
use Rattle.images.specs.declared.layers.UnitRefusal.{UnitRefusal}
use Rattle.images.specs.declared.layers.StringRefusal.{StringRefusal}
use Rattle.images.specs.Trailer.{verdict}
use Rattle.images.specs.Refusals.{fault_position}

-- the unit adds the position of the byte, in an image of n bytes
abbrev pub with_position : {A : Type 0} → Result A ImageFault → ℕ → Result A UnitRefusal
with_position (Ok a) n = Ok a
with_position (Err f) n = Err (record { fault = f; position = fault_position f n })

-- the string adds the number of the unit
abbrev pub with_unit : {A : Type 0} → Result A UnitRefusal → ℕ → Result A StringRefusal
with_unit (Ok a) u = Ok a
with_unit (Err r) u = Err (record { unit = u; refusal = r })

-- the verdict on a unit's image
abbrev pub unit_verdict : List ℕ → Result Layout UnitRefusal
unit_verdict image = with_position (verdict image) (length image)

-- the first image that is refused, of the units from u on
abbrev pub after : Result Layout StringRefusal → Result (Unit {0}) StringRefusal → Result (Unit {0}) StringRefusal
after (Ok l) rest = rest
after (Err r) rest = Err r

unfoldable pub string_verdict : ℕ → List (List ℕ) → Result (Unit {0}) StringRefusal
string_verdict u [] = Ok tt
string_verdict u (image ∷ images) = after (with_unit (unit_verdict image) u) (string_verdict (u + 1) images)
