-- What is shown of units over rows of bytes.
use Rattle.std.specs.Prelude.{◌≡◌, ℕ, ◌+◌, ◌*◌, ◌<◌, ◌≤◌, true, cond, List, length, slice_index, slice_set}
use Rattle.drives.specs.declared.parts.Part.{Part}
use Rattle.drives.specs.Drives.{Shape, is_place, is_byte, part_size}
use Rattle.units.specs.declared.layout.Layout.{Layout}
use Rattle.units.specs.declared.unit.State.{State}
use Rattle.units.specs.Rows.{slot_at, part_start, mark_bit, with_bit}
use Rattle.units.specs.Units.{said, fits, shape_in, standing, unit_of, rest_of}
use Rattle.laws.specs.OfStrings.{Change, step, line_to, mark_to, byte_to, made}

-- the byte of a row where a slot begins: slots follow each other by cylinder, head and slot
abbrev pub begins : Layout → ℕ → ℕ → ℕ → ℕ
begins l c h s = l.first + ((c * l.heads + h) * l.slots + s) * (l.length + 11)

-- where a layout fits its row, each place's slot lies in the row: its marks are two bits of the slot's first byte, its
-- ID the six bytes after it, and its data field the bytes after those
abbrev pub WhereThingsLie : Type 0
WhereThingsLie =
    (st : State) (row : List ℕ) (p : Part) (c h s : ℕ) → fits st.layout (length row) ≡ true → c < st.layout.cylinders → h < st.layout.heads → s < st.layout.slots → (begins st.layout c h s + (st.layout.length + 11) ≤ length row) × ((unit_of st row).marks p c h s ≡ mark_bit p (slice_index row (begins st.layout c h s))) × ((i : ℕ) → i < part_size (said st.layout) p → (unit_of st row).bytes p c h s i ≡ slice_index row (begins st.layout c h s + part_start p + i))

-- two rows with the same shape, marks, bytes and rest are the same row: no byte escapes the meaning and the rest
abbrev pub EveryByteIsNamed : Type 0
EveryByteIsNamed =
    (st st' : State) (xs ys : List ℕ) → (unit_of st xs).shape ≡ (unit_of st' ys).shape → (unit_of st xs).marks ≡ (unit_of st' ys).marks → (unit_of st xs).bytes ≡ (unit_of st' ys).bytes → rest_of st xs ≡ rest_of st' ys → xs ≡ ys

-- the row after a change of its unit: a mark or byte of a place on the standing cylinder that exists alters its one byte
-- of the row, the byte of marks only in that mark's bit; nothing else alters any
abbrev pub row_after : Change → State → List ℕ → List ℕ
row_after (step direction) st row = row
row_after (line_to line value) st row = row
row_after (mark_to p h s value) st row =
    let g : Shape = shape_in st.layout (length row) in
    let at : ℕ = st.layout.first + slot_at g (standing st (length row)) h s in
    cond (is_place g (standing st (length row)) h s) (slice_set row at (with_bit p value (slice_index row at))) row
row_after (byte_to p h s i value) st row =
    let g : Shape = shape_in st.layout (length row) in
    let at : ℕ = st.layout.first + slot_at g (standing st (length row)) h s in
    cond (is_byte g p (standing st (length row)) h s i) (slice_set row (at + (part_start p + i)) value) row

-- whatever makes a change of a unit as the meaning has it, and leaves the rest alone, leaves exactly that row
abbrev pub ExactlyThatByteChanges : Type 0
ExactlyThatByteChanges =
    (st st' : State) (row row' : List ℕ) (change : Change) → unit_of st' row' ≡ made change (unit_of st row) → rest_of st' row' ≡ rest_of st row → row' ≡ row_after change st row
