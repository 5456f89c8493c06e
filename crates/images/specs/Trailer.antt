-- The trailer of an image, its last sixteen bytes, and what it says.
use Rattle.std.specs.Prelude.{ℕ, ◌+◌, ◌-◌, ◌*◌, Bool, cond, ◌&&◌, List, length, Ok, Err, Result, ◌==◌, nat_le, nat_lt, slice_index}
use Rattle.drives.specs.declared.geometry.Dimension.{Dimension}
use Rattle.drives.specs.Drives.{Shape}
use Rattle.drives.specs.Shapes.{bounded_shape}
use Rattle.units.specs.Rows.{area}
use Rattle.units.specs.declared.layout.Layout.{Layout}
use Rattle.images.specs.declared.refusal.TrailerField.{TrailerField}
use Rattle.images.specs.declared.refusal.TrailerField.TheVariants.{Zeros}
use Rattle.images.specs.Fields.{field_of}
use Rattle.images.specs.declared.refusal.ImageFault.{ImageFault}
use Rattle.images.specs.declared.refusal.ImageFault.TheVariants.{TooShort, NotMarked, OutOfBounds, WrongDistance}

-- byte k from the end of an image, from 1
abbrev pub last : List ℕ → ℕ → ℕ
last image k = slice_index image (length image - k)

-- the last four bytes are 37 32 36 31
abbrev pub marked : List ℕ → Bool
marked image = last image 4 == 0x37 && (last image 3 == 0x32 && (last image 2 == 0x36 && last image 1 == 0x31))

-- a shape within the bounds of an image: 1 to 2,048 cylinders, 1 to 8 heads, 1 to 32 slots, 128 to 4,095 data bytes; or
-- the trailer's field that holds the first number that is not
abbrev pub in_field : Result Shape Dimension → Result Shape TrailerField
in_field (Ok g) = Ok g
in_field (Err dimension) = Err (field_of dimension)

abbrev pub in_bounds : ℕ → ℕ → ℕ → ℕ → Result Shape TrailerField
in_bounds c h s l = in_field (bounded_shape c h s l)

-- what is left to test in an image of n bytes: the two bytes 00, and the distance back from the trailer to the first
-- slot, which is that of all slots and not more than there is
abbrev pub placed : ℕ → ℕ → ℕ → Shape → Result Layout ImageFault
placed n z d g =
    cond (z == 0)
    (cond (d == area g && nat_le d (n - 16))
    (Ok (record { first = n - 16 - d; cylinders = g.cylinders; heads = g.heads; slots = g.slots; length = g.length }))
    (Err WrongDistance))
    (Err (OutOfBounds Zeros))

abbrev pub then_placed : Result Shape TrailerField → ℕ → ℕ → ℕ → Result Layout ImageFault
then_placed (Ok g) n z d = placed n z d g
then_placed (Err f) n z d = Err (OutOfBounds f)

-- what the fields of an image of n bytes say
abbrev pub judged : ℕ → ℕ → ℕ → ℕ → ℕ → ℕ → ℕ → Result Layout ImageFault
judged n c h s l z d = then_placed (in_bounds c h s l) n z d

-- the verdict on an image: where its slots lie, or why it is refused; the tests go in the order of the refusals
unfoldable pub verdict : List ℕ → Result Layout ImageFault
verdict image =
    cond (nat_lt (length image) 16)
    (Err TooShort)
    (cond (marked image)
    (judged (length image)
    (last image 16 * 256 + last image 15)
    (last image 14)
    (last image 13)
    (last image 12 * 256 + last image 11)
    (last image 10 * 256 + last image 9)
    (((last image 8 * 256 + last image 7) * 256 + last image 6) * 256 + last image 5))
    (Err NotMarked))
