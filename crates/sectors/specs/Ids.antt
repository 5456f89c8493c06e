-- The ID field of a place on the standing cylinder: LCNH, LCNL, LHN, LSN and a check of two bytes, high bytes first.
use Rattle.std.specs.Prelude.{ℕ, ◌+◌, ◌*◌, List, [], ◌∷◌}
use Rattle.check_bytes.specs.Schemes.{Divider, check_by}
use Rattle.drives.specs.declared.parts.Part.TheVariants.{Id}
use Rattle.drives.specs.Drives.{Drive, byte_here}
use Rattle.sectors.specs.declared.address.Address.{Address}
use Rattle.sectors.specs.declared.address.CheckPair.{CheckPair}

-- the numbers that it holds
abbrev pub address_at : Drive → ℕ → ℕ → Address
address_at d h s =
    record {
      cylinder = record { 0 = byte_here d Id h s 0 * 256 + byte_here d Id h s 1 };
      head = record { 0 = byte_here d Id h s 2 };
      sector = record { 0 = byte_here d Id h s 3 };
    }

-- the four bytes under its check
abbrev pub id_bytes : Drive → ℕ → ℕ → List ℕ
id_bytes d h s = byte_here d Id h s 0 ∷ byte_here d Id h s 1 ∷ byte_here d Id h s 2 ∷ byte_here d Id h s 3 ∷ []

-- its check as it stands, and the right one
abbrev pub id_checks : Divider → Drive → ℕ → ℕ → CheckPair
id_checks by d h s =
    record { found = byte_here d Id h s 4 * 256 + byte_here d Id h s 5; right = check_by by (id_bytes d h s) }
