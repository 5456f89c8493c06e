-- The search for a sector on a track of the standing cylinder.
use Rattle.std.specs.Prelude.{ℕ, zero, suc, ◌+◌, Bool, cond, ◌&&◌, Some, None, Option, ◌==◌}
use Rattle.check_bytes.specs.Schemes.{Divider}
use Rattle.drives.specs.declared.numbers.Slot.{Slot}
use Rattle.drives.specs.declared.parts.Part.TheVariants.{Id}
use Rattle.drives.specs.Drives.{Drive, mark_here}
use Rattle.sectors.specs.declared.address.Address.{Address}
use Rattle.sectors.specs.declared.address.CheckPair.{CheckPair}
use Rattle.sectors.specs.Ids.{address_at, id_checks}

-- a check that stands as it should
abbrev pub is_right : CheckPair → Bool
is_right pair = pair.found == pair.right

-- the same logical numbers
abbrev pub same_address : Address → Address → Bool
same_address a b = a.cylinder.0 == b.cylinder.0 && (a.head.0 == b.head.0 && a.sector.0 == b.sector.0)

-- a slot of the track has a marked ID with a right check and the wanted numbers
abbrev pub wanted_at : Divider → Drive → Address → ℕ → ℕ → Bool
wanted_at by d wanted h s = mark_here d Id h s && (is_right (id_checks by d h s) && same_address (address_at d h s) wanted)

-- the first of `count` slots from slot s on that passes a test
unfoldable pub first_slot : (ℕ → Bool) → ℕ → ℕ → Option Slot
first_slot test zero s = None
first_slot test (suc count) s = cond (test s) (Some (record { 0 = s })) (first_slot test count (s + 1))
