-- What a unit over a row of bytes means.
use Rattle.std.specs.Prelude.{ℕ, ◌+◌, ◌-◌, min, Bool, false, cond, ◌&&◌, List, [], ◌∷◌, length, nat_le}
use Rattle.drives.specs.declared.parts.Line.{Line}
use Rattle.drives.specs.declared.parts.Line.TheVariants.{Ready, Protect, Fault}
use Rattle.drives.specs.Bounds.{bounded}
use Rattle.drives.specs.Drives.{Shape, Drive, no_shape}
use Rattle.drives.specs.Sound.{Rest, memory}
use Rattle.units.specs.declared.layout.Layout.{Layout}
use Rattle.units.specs.declared.unit.State.{State}
use Rattle.units.specs.Rows.{area, marks_in, bytes_in, besides}

-- the shape that a layout's numbers say
abbrev pub said : Layout → Shape
said l = record { cylinders = l.cylinders; heads = l.heads; slots = l.slots; length = l.length }

-- whether its numbers are in bounds and its slots lie in a row of n bytes
abbrev pub fits : Layout → ℕ → Bool
fits l n = bounded l.cylinders l.heads l.slots l.length && nat_le (l.first + area (said l)) n

-- the shape of a unit over a row of n bytes: a layout that does not fit has no places
abbrev pub shape_in : Layout → ℕ → Shape
shape_in l n = cond (fits l n) (said l) no_shape

-- the cylinder where its heads stand
abbrev pub standing : State → ℕ → ℕ
standing st n = min st.cylinder ((shape_in st.layout n).cylinders - 1)

abbrev pub lines_of : State → Line → Bool
lines_of st Ready = st.ready
lines_of st Protect = st.protect
lines_of st Fault = st.fault

-- one line of a state set
abbrev pub with_state_line : Line → Bool → State → State
with_state_line Ready value st = record st { ready = value }
with_state_line Protect value st = record st { protect = value }
with_state_line Fault value st = record st { fault = value }

-- the unit
unfoldable pub unit_of : State → List ℕ → Drive
unit_of st row =
    let g : Shape = shape_in st.layout (length row) in
    record {
      shape = g;
      lines = lines_of st;
      held = false;
      cylinder = standing st (length row);
      marks = marks_in g st.layout.first row;
      bytes = bytes_in g st.layout.first row;
    }

-- a string of this unit alone
abbrev pub alone : State → List ℕ → List Drive
alone st row = unit_of st row ∷ []

-- what its row holds besides
abbrev pub rest_of : State → List ℕ → Rest
rest_of st row = memory (length row) st.layout.first (besides (shape_in st.layout (length row)) st.layout.first row)
