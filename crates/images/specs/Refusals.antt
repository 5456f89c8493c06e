-- The refusals of an image: number, unit and position of each.
use Rattle.std.specs.Prelude.{ℕ, ◌-◌}
use Rattle.images.specs.declared.refusal.TrailerField.TheVariants.{Cylinders, Heads, Slots, Length, Zeros}
use Rattle.images.specs.declared.refusal.ImageFault.{ImageFault}
use Rattle.images.specs.declared.refusal.ImageFault.TheVariants.{TooShort, NotMarked, OutOfBounds, WrongDistance}

-- the refusal's number
abbrev pub fault_number : ImageFault → ℕ
fault_number TooShort = 1
fault_number NotMarked = 2
fault_number (OutOfBounds f) = 3
fault_number WrongDistance = 4

-- the byte that it is about, in an image of n bytes: the first byte of the mark, of the field, or of the distance
abbrev pub fault_position : ImageFault → ℕ → ℕ
fault_position TooShort n = 0
fault_position NotMarked n = n - 4
fault_position (OutOfBounds Cylinders) n = n - 16
fault_position (OutOfBounds Heads) n = n - 14
fault_position (OutOfBounds Slots) n = n - 13
fault_position (OutOfBounds Length) n = n - 12
fault_position (OutOfBounds Zeros) n = n - 10
fault_position WrongDistance n = n - 8
