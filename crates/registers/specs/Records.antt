-- The cylinder that the controller believes each of units 0 to 3 to be on, PCN. A change for another unit does nothing.
use Rattle.std.specs.Prelude.{ℕ, ◌+◌, ◌%◌, cond, get_or, replicate, nat_lt, slice_index_or, slice_set}
use Rattle.drives.specs.declared.parts.Direction.{Direction}
use Rattle.drives.specs.declared.parts.Direction.TheVariants.{Inward, Outward}
use Rattle.registers.specs.declared.units.UnitRecord.{UnitRecord}
use Rattle.registers.specs.declared.units.UnitRecords.{UnitRecords}

abbrev pub record_at : ℕ → UnitRecord
record_at cylinder = record { cylinder = record { 0 = cylinder } }

-- one cylinder further, in sixteen bits
abbrev pub moved_record : Direction → UnitRecord → UnitRecord
moved_record Inward r = record_at ((r.cylinder.0 + 1) % 65536)
moved_record Outward r = record_at ((r.cylinder.0 + 65535) % 65536)

unfoldable pub believed : UnitRecords → ℕ → ℕ
believed rs unit = cond (nat_lt unit 4) (get_or rs.of unit (record_at 0)).cylinder.0 0

unfoldable pub moved : UnitRecords → ℕ → Direction → UnitRecords
moved rs unit direction =
    cond (nat_lt unit 4) (record { of = slice_set rs.of unit (moved_record direction (slice_index_or rs.of unit (record_at 0))) }) rs

unfoldable pub recalled : UnitRecords → ℕ → UnitRecords
recalled rs unit = cond (nat_lt unit 4) (record { of = slice_set rs.of unit (record_at 0) }) rs

unfoldable pub all_zero : UnitRecords
all_zero = record { of = replicate 4 (record_at 0) }
