-- What strings made of strings mean.
use Rattle.std.specs.Prelude.{true, cond, List, ◌++◌, map, take, drop}
use Rattle.drives.specs.declared.parts.Line.TheVariants.{Protect}
use Rattle.drives.specs.Drives.{Drive}
use Rattle.drives.specs.Changes.{same_line}

-- a pair: the second string's units follow the first's, and those past the eighth are missing
unfoldable pub joined : List Drive → List Drive → List Drive
joined xs ys = take 8 (xs ++ ys)

-- the units past the eighth
unfoldable pub left_over : List Drive → List Drive → List Drive
left_over xs ys = drop 8 (xs ++ ys)

-- a unit held for good
unfoldable pub hold : Drive → Drive
hold d = record d { lines = λ line. cond (same_line line Protect) true (d.lines line); held = true }

-- a collar: every unit held
unfoldable pub all_held : List Drive → List Drive
all_held ds = map hold ds
