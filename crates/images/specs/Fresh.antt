-- New units.
use Rattle.std.specs.Prelude.{ℕ, Bool, true, false, List, replicate, Ok, Err, Result}
use Rattle.units.specs.declared.layout.Layout.{Layout}
use Rattle.units.specs.declared.unit.State.{State}
use Rattle.images.specs.declared.refusal.ImageFault.{ImageFault}
use Rattle.images.specs.Trailer.{verdict}

-- the layout of a unit without places
abbrev pub no_layout : Layout
no_layout = record { first = 0; cylinders = 0; heads = 0; slots = 0; length = 0 }

-- a new unit stands at cylinder 0, with protect 0 and fault 0
abbrev pub new : Layout → Bool → State
new layout ready = record { layout = layout; cylinder = 0; ready = ready; protect = false; fault = false }

-- over an image that is accepted it is ready; over one that is refused it has no places and is not
abbrev pub fresh_from : Result Layout ImageFault → State
fresh_from (Ok layout) = new layout true
fresh_from (Err fault) = new no_layout false

abbrev pub fresh_state : List ℕ → State
fresh_state image = fresh_from (verdict image)

-- a cartridge: 2 cylinders, 2 heads, 4 slots, 128 data bytes, all bytes 00
abbrev pub cartridge_state : State
cartridge_state = new (record { first = 0; cylinders = 2; heads = 2; slots = 4; length = 128 }) true

abbrev pub empty_cells : List ℕ
empty_cells = replicate 2224 0
