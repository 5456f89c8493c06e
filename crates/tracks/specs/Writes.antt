-- What is written to a sector of the standing cylinder.
use Rattle.std.specs.Prelude.{ℕ, zero, suc, ◌+◌, ◌/◌, true, List, [], ◌∷◌, ◌++◌, slice_index}
use Rattle.check_bytes.specs.Checks.{check_bytes}
use Rattle.check_bytes.specs.Schemes.{Divider, check_by}
use Rattle.drives.specs.declared.parts.Part.{Part}
use Rattle.drives.specs.declared.parts.Part.TheVariants.{Id, Data}
use Rattle.drives.specs.Drives.{Drive}
use Rattle.drives.specs.Changes.{with_mark, with_byte}
use Rattle.sectors.specs.Fields.{field_bytes}

-- so many bytes of a part written from byte `from` on, byte k of them being f k
unfoldable pub with_bytes : Part → ℕ → ℕ → ℕ → (ℕ → ℕ) → ℕ → Drive → Drive
with_bytes p h s from f zero d = d
with_bytes p h s from f (suc k) d = with_byte p h s (from + k) (f k) (with_bytes p h s from f k d)

-- byte k of the check of some bytes
abbrev pub byte_of_check : Divider → List ℕ → ℕ → ℕ
byte_of_check by bytes k = slice_index (check_bytes (by.degree / 8) (check_by by bytes)) k

-- the check of so many data bytes, as they stand, written after them
unfoldable pub with_check : Divider → ℕ → ℕ → ℕ → Drive → Drive
with_check by h s length d = with_bytes Data h s length (byte_of_check by (field_bytes d h s 0 length)) (by.degree / 8) d

-- the six bytes of an ID: its four numbers, and two check bytes
abbrev pub id_field : Divider → List ℕ → List ℕ
id_field by numbers = numbers ++ (byte_of_check by numbers 0 ∷ byte_of_check by numbers 1 ∷ [])

-- an ID written
unfoldable pub with_id : Divider → ℕ → ℕ → List ℕ → Drive → Drive
with_id by h s numbers d = with_bytes Id h s 0 (λ k. slice_index (id_field by numbers) k) 6 d

-- so many data bytes of one value written
unfoldable pub with_pattern : ℕ → ℕ → ℕ → ℕ → Drive → Drive
with_pattern h s length value d = with_bytes Data h s 0 (λ _. value) length d

-- Write Data closes a sector: the check is written, and the data mark goes up
unfoldable pub sector_closed : Divider → ℕ → ℕ → ℕ → Drive → Drive
sector_closed by h s length d = with_mark Data h s true (with_check by h s length d)

-- Format closes a sector: its ID, its data bytes and both checks are written, and both marks go up
unfoldable pub sector_formatted : Divider → Divider → ℕ → ℕ → List ℕ → ℕ → ℕ → Drive → Drive
sector_formatted id_by data_by h s numbers length value d =
    sector_closed data_by h s length (with_mark Id h s true (with_pattern h s length value (with_id id_by h s numbers d)))
