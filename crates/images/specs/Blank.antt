-- Blank images.
use Rattle.std.specs.Prelude.{◌≡◌, ℕ, ◌/◌, ◌%◌, List, [], ◌∷◌, ◌++◌, replicate, Ok, Err, vec_items, Result, Vec}
use Rattle.std.specs.declared.alloc.Global.{Global}
use Rattle.drives.specs.Drives.{Shape}
use Rattle.units.specs.Rows.{area}
use Rattle.images.specs.declared.blank.BlankFault.{BlankFault}
use Rattle.images.specs.declared.blank.BlankFault.TheVariants.{OutOfBounds, NoMemory}
use Rattle.images.specs.Trailer.{in_bounds}

-- the sixteen bytes at the end, high bytes first: cylinders, heads, slots, data length, two bytes 00, the distance back
-- to the first slot, and the mark
abbrev pub trailer : Shape → List ℕ
trailer g =
    g.cylinders / 256
    ∷ g.cylinders % 256
    ∷ g.heads
    ∷ g.slots
    ∷ g.length / 256
    ∷ g.length % 256
    ∷ 0
    ∷ 0
    ∷ area g / 0x1000000 % 256
    ∷ area g / 0x10000 % 256
    ∷ area g / 0x100 % 256
    ∷ area g % 256
    ∷ 0x37
    ∷ 0x32
    ∷ 0x36
    ∷ 0x31
    ∷ []

-- all slots 00, then the trailer
abbrev pub blank : Shape → List ℕ
blank g = replicate (area g) 0 ++ trailer g

-- the answer: the blank image of a shape within the bounds, the first number that is not, or want of memory
abbrev pub BlankAnswer : ℕ → ℕ → ℕ → ℕ → Result (Vec ℕ Global) BlankFault → Type 0
BlankAnswer c h s l (Ok v) = in_bounds c h s l ≡ Ok (record { cylinders = c; heads = h; slots = s; length = l }) × (vec_items v ≡ blank (record { cylinders = c; heads = h; slots = s; length = l }))
BlankAnswer c h s l (Err (OutOfBounds field)) = in_bounds c h s l ≡ Err field
BlankAnswer c h s l (Err NoMemory) = in_bounds c h s l ≡ Ok (record { cylinders = c; heads = h; slots = s; length = l })
