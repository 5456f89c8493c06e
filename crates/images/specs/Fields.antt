-- The trailer's fields that have bounds.
use Rattle.drives.specs.declared.geometry.Dimension.{Dimension}
use Rattle.drives.specs.declared.geometry.Dimension.TheVariants as dimension
use Rattle.images.specs.declared.refusal.TrailerField.{TrailerField}
use Rattle.images.specs.declared.refusal.TrailerField.TheVariants.{Cylinders, Heads, Slots, Length}

-- the field that holds a number of the geometry
abbrev pub field_of : Dimension → TrailerField
field_of dimension.Cylinders = Cylinders
field_of dimension.Heads = Heads
field_of dimension.Slots = Slots
field_of dimension.Length = Length
