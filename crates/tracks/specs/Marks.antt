-- What the IDs of a track on the standing cylinder show.
use Rattle.std.specs.Prelude.{ℕ, zero, suc, Bool, false, not, ◌&&◌}
use Rattle.std.specs.List.{list_any, range_with_len}
use Rattle.check_bytes.specs.Schemes.{Divider}
use Rattle.drives.specs.declared.parts.Part.TheVariants.{Id, Data}
use Rattle.drives.specs.Drives.{Drive, mark_here}
use Rattle.drives.specs.Changes.{with_mark}
use Rattle.sectors.specs.Ids.{id_checks}
use Rattle.sectors.specs.Search.{is_right}

-- one of the first so many slots passes a test
abbrev pub some_slot : (ℕ → Bool) → ℕ → Bool
some_slot test count = list_any test (range_with_len 0 count)

-- some slot of the track has an ID mark
unfoldable pub has_id_mark : Drive → ℕ → Bool
has_id_mark d h = some_slot (mark_here d Id h) d.shape.slots

-- a slot has an ID mark and a wrong ID check
abbrev pub is_wrong_id : Divider → Drive → ℕ → ℕ → Bool
is_wrong_id by d h s = mark_here d Id h s && not (is_right (id_checks by d h s))

-- some slot of the track has one
unfoldable pub has_wrong_id : Divider → Drive → ℕ → Bool
has_wrong_id by d h = some_slot (is_wrong_id by d h) d.shape.slots

-- both marks of the first so many slots of a track down
unfoldable pub lowered : ℕ → ℕ → Drive → Drive
lowered h zero d = d
lowered h (suc s) d = with_mark Data h s false (with_mark Id h s false (lowered h s d))

-- both marks of all slots of a track down
unfoldable pub track_opened : ℕ → Drive → Drive
track_opened h d = lowered h d.shape.slots d
