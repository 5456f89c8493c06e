-- What a string of drives means.
use Rattle.std.specs.Prelude.{ℕ, ◌+◌, Bool, false, ◌&&◌, List, nat_lt, slice_index_or}
use Rattle.drives.specs.declared.geometry.Geometry.{Geometry}
use Rattle.drives.specs.declared.parts.Part.{Part}
use Rattle.drives.specs.declared.parts.Part.TheVariants.{Id, Data}
use Rattle.drives.specs.declared.parts.Line.{Line}

-- how many cylinders, heads, slots a track and data bytes a slot a unit has
pub record Shape : Type 0 where
  pub cylinders : ℕ
  pub heads : ℕ
  pub slots : ℕ
  pub length : ℕ

-- a unit: its shape; its lines; whether it is held, so that protect stays 1; the cylinder where its heads stand; and
-- for each place (cylinder, head, slot) the address marks and the bytes of its two parts
pub record Drive : Type 0 where
  pub shape : Shape
  pub lines : Line → Bool
  pub held : Bool
  pub cylinder : ℕ
  pub marks : Part → ℕ → ℕ → ℕ → Bool
  pub bytes : Part → ℕ → ℕ → ℕ → ℕ → ℕ

abbrev pub shape_of : Geometry → Shape
shape_of g = record { cylinders = g.cylinders; heads = g.heads; slots = g.slots; length = g.length }

-- the shape of a unit that has no places
abbrev pub no_shape : Shape
no_shape = record { cylinders = 0; heads = 0; slots = 0; length = 0 }

-- a unit that does not exist: it shows no marks, bytes 00 and lines 0
abbrev pub absent : Drive
absent =
    record {
      shape = no_shape;
      lines = λ _. false;
      held = false;
      cylinder = 0;
      marks = λ _ _ _ _. false;
      bytes = λ _ _ _ _ _. 0;
    }

-- unit u of a string
unfoldable pub drive : List Drive → ℕ → Drive
drive ds u = slice_index_or ds u absent

-- whether a place exists
abbrev pub is_place : Shape → ℕ → ℕ → ℕ → Bool
is_place g c h s = nat_lt c g.cylinders && (nat_lt h g.heads && nat_lt s g.slots)

-- the bytes of a part: six of an ID, and four more than the data bytes for a data field's check
abbrev pub part_size : Shape → Part → ℕ
part_size g Id = 6
part_size g Data = g.length + 4

-- whether byte i of a part of a place exists
abbrev pub is_byte : Shape → Part → ℕ → ℕ → ℕ → ℕ → Bool
is_byte g p c h s i = is_place g c h s && nat_lt i (part_size g p)

-- what shows at a place on the standing cylinder
abbrev pub mark_here : Drive → Part → ℕ → ℕ → Bool
mark_here d p h s = d.marks p d.cylinder h s

abbrev pub byte_here : Drive → Part → ℕ → ℕ → ℕ → ℕ
byte_here d p h s i = d.bytes p d.cylinder h s i
