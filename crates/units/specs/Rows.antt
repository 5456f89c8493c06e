-- Where a unit's places lie in a row of bytes.
use Rattle.std.specs.Prelude.{ℕ, ◌+◌, ◌-◌, ◌*◌, ◌/◌, ◌%◌, Bool, false, cond, ◌&&◌, List, ◌==◌, nat_le, nat_lt, slice_index}
use Rattle.drives.specs.declared.parts.Part.{Part}
use Rattle.drives.specs.declared.parts.Part.TheVariants.{Id, Data}
use Rattle.drives.specs.Drives.{Shape, is_place, is_byte}

-- the bytes of a slot: one of marks, six of ID, and a field of four bytes more than its data
abbrev pub slot_size : Shape → ℕ
slot_size g = g.length + 11

-- how far a slot's first byte, that of its marks, is from the first slot: slots follow by cylinder, head, slot
unfoldable pub slot_at : Shape → ℕ → ℕ → ℕ → ℕ
slot_at g c h s = ((c * g.heads + h) * g.slots + s) * slot_size g

-- the bytes of all slots
abbrev pub area : Shape → ℕ
area g = g.cylinders * g.heads * g.slots * slot_size g

-- where a part's bytes begin in its slot
abbrev pub part_start : Part → ℕ
part_start Id = 1
part_start Data = 7

-- a part's mark in the byte of marks: bit 0 for the ID, bit 1 for the data
abbrev pub mark_bit : Part → ℕ → Bool
mark_bit Id byte = byte % 2 == 1
mark_bit Data byte = byte / 2 % 2 == 1

-- the byte of marks with one of them set, its other bits as they are
abbrev pub with_bit : Part → Bool → ℕ → ℕ
with_bit Id value byte = byte / 2 * 2 + cond value 1 0
with_bit Data value byte = byte / 4 * 4 + cond value 2 0 + byte % 2

-- the marks and bytes of places in a row whose first slot begins at `first`
unfoldable pub marks_in : Shape → ℕ → List ℕ → Part → ℕ → ℕ → ℕ → Bool
marks_in g first row p c h s = cond (is_place g c h s) (mark_bit p (slice_index row (first + slot_at g c h s))) false

unfoldable pub bytes_in : Shape → ℕ → List ℕ → Part → ℕ → ℕ → ℕ → ℕ → ℕ
bytes_in g first row p c h s i = cond (is_byte g p c h s i) (slice_index row (first + slot_at g c h s + (part_start p + i))) 0

-- what byte k of the row holds besides marks and bytes of places: all of it outside the slots, the six other bits of a
-- byte of marks, and nothing in the rest of a slot
unfoldable pub besides : Shape → ℕ → List ℕ → ℕ → ℕ
besides g first row k =
    cond (nat_le first k && nat_lt k (first + area g)) (cond ((k - first) % slot_size g == 0) (slice_index row k / 4) 0) (slice_index row k)
