-- The data field of a place on the standing cylinder: data bytes, and their check after them, high byte first.
use Rattle.std.specs.Prelude.{ℕ, ◌/◌, List, map}
use Rattle.std.specs.List.{range_with_len}
use Rattle.check_bytes.specs.Checks.{message}
use Rattle.check_bytes.specs.Schemes.{Divider, check_by}
use Rattle.drives.specs.declared.parts.Part.TheVariants.{Data}
use Rattle.drives.specs.Drives.{Drive, byte_here}
use Rattle.sectors.specs.declared.address.CheckPair.{CheckPair}

-- so many bytes of the field, from byte i on
abbrev pub field_bytes : Drive → ℕ → ℕ → ℕ → ℕ → List ℕ
field_bytes d h s i count = map (byte_here d Data h s) (range_with_len i count)

-- the check that stands after `length` data bytes, as many bytes as the degree has, and the right one
abbrev pub field_checks : Divider → Drive → ℕ → ℕ → ℕ → CheckPair
field_checks by d h s length =
    record { found = message (field_bytes d h s length (by.degree / 8)); right = check_by by (field_bytes d h s 0 length) }
