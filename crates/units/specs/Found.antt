-- What a search for a slot's first byte says, by its answer: what shows at the place, and what a write to the row means.
use Rattle.std.specs.Prelude.{◌≡◌, ℕ, ◌+◌, ◌^◌, ◌<◌, ◌≤◌, Bool, false, List, length, Some, None, Option, slice_index, slice_set}
use Rattle.drives.specs.declared.parts.Part.{Part}
use Rattle.drives.specs.Drives.{drive, part_size, mark_here, byte_here}
use Rattle.drives.specs.Changes.{changed, with_mark, with_byte}
use Rattle.units.specs.declared.unit.State.{State}
use Rattle.units.specs.Rows.{part_start, mark_bit, with_bit}
use Rattle.units.specs.Units.{shape_in, alone, rest_of}

-- there is no such place
pub record Missing (st : State) (row : List ℕ) (u h s : ℕ) : Type 0 where
  pub mark : (p : Part) → mark_here (drive (alone st row) u) p h s ≡ false
  pub byte : (p : Part) (i : ℕ) → byte_here (drive (alone st row) u) p h s i ≡ 0
  pub set_mark : (p : Part) (value : Bool) → alone st row ≡ changed (alone st row) u (with_mark p h s value)
  pub set_byte : (p : Part) (i value : ℕ) → alone st row ≡ changed (alone st row) u (with_byte p h s i value)

-- the place's marks are byte `at` of the row
pub record Standing (st : State) (row : List ℕ) (u h s at : ℕ) : Type 0 where
  pub room : at + ((shape_in st.layout (length row)).length + 11) < 2 ^ 64
  pub mark : (p : Part) → mark_here (drive (alone st row) u) p h s ≡ mark_bit p (slice_index row at)
  pub byte : (p : Part) (i : ℕ) → i < part_size (shape_in st.layout (length row)) p → byte_here (drive (alone st row) u) p h s i ≡ slice_index row (at + (part_start p + i))
  pub no_byte : (p : Part) (i : ℕ) → part_size (shape_in st.layout (length row)) p ≤ i → byte_here (drive (alone st row) u) p h s i ≡ 0
  pub set_mark : (p : Part) (value : Bool) → alone st (slice_set row at (with_bit p value (slice_index row at))) ≡ changed (alone st row) u (with_mark p h s value)
  pub set_mark_rest : (p : Part) (value : Bool) → rest_of st (slice_set row at (with_bit p value (slice_index row at))) ≡ rest_of st row
  pub set_byte : (p : Part) (i value : ℕ) → i < part_size (shape_in st.layout (length row)) p → alone st (slice_set row (at + (part_start p + i)) value) ≡ changed (alone st row) u (with_byte p h s i value)
  pub set_byte_rest : (p : Part) (i value : ℕ) → i < part_size (shape_in st.layout (length row)) p → rest_of st (slice_set row (at + (part_start p + i)) value) ≡ rest_of st row
  pub no_set_byte : (p : Part) (i value : ℕ) → part_size (shape_in st.layout (length row)) p ≤ i → alone st row ≡ changed (alone st row) u (with_byte p h s i value)

abbrev pub Found : State → List ℕ → ℕ → ℕ → ℕ → Option ℕ → Type 0
Found st row u h s None = Missing st row u h s
Found st row u h s (Some at) = Standing st row u h s at

-- the same of one byte of a part of a place, which is byte k of the row
pub record NoByte (st : State) (row : List ℕ) (u : ℕ) (p : Part) (h s i : ℕ) : Type 0 where
  pub shows : byte_here (drive (alone st row) u) p h s i ≡ 0
  pub sets : (value : ℕ) → alone st row ≡ changed (alone st row) u (with_byte p h s i value)

pub record ByteAt (st : State) (row : List ℕ) (u : ℕ) (p : Part) (h s i k : ℕ) : Type 0 where
  pub shows : byte_here (drive (alone st row) u) p h s i ≡ slice_index row k
  pub sets : (value : ℕ) → alone st (slice_set row k value) ≡ changed (alone st row) u (with_byte p h s i value)
  pub rest : (value : ℕ) → rest_of st (slice_set row k value) ≡ rest_of st row

abbrev pub FoundByte : State → List ℕ → ℕ → Part → ℕ → ℕ → ℕ → Option ℕ → Type 0
FoundByte st row u p h s i None = NoByte st row u p h s i
FoundByte st row u p h s i (Some k) = ByteAt st row u p h s i k
