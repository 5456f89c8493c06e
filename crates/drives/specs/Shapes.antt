-- A geometry made from four numbers.
use Rattle.std.specs.Prelude.{ℕ, cond, Ok, Err, Result}
use Rattle.drives.specs.declared.geometry.Dimension.{Dimension}
use Rattle.drives.specs.declared.geometry.Dimension.TheVariants.{Cylinders, Heads, Slots, Length}
use Rattle.drives.specs.declared.geometry.Geometry.{Geometry}
use Rattle.drives.specs.Bounds.{within}
use Rattle.drives.specs.Drives.{Shape, shape_of}

-- the shape, if all four are within their bounds, or else the first number that is not
abbrev pub bounded_shape : ℕ → ℕ → ℕ → ℕ → Result Shape Dimension
bounded_shape c h s l =
    cond (within 1 2048 c)
    (cond (within 1 8 h)
    (cond (within 1 32 s)
    (cond (within 128 4095 l)
    (Ok (record { cylinders = c; heads = h; slots = s; length = l }))
    (Err Length))
    (Err Slots))
    (Err Heads))
    (Err Cylinders)

-- the answer of the geometry's maker, with its shape
abbrev pub shape_answer : Result Geometry Dimension → Result Shape Dimension
shape_answer (Ok g) = Ok (shape_of g)
shape_answer (Err d) = Err d
