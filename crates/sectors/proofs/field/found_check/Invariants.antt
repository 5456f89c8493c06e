use Rattle.drives.specs.Drives.{drive}
use Rattle.sectors.specs.Fields.{field_bytes}
use Rattle.sectors.proofs.Runs.{Spelt}
use Rattle.sectors.proofs.field.found_check.Given as goal

abbrev pub invariant-loop-i : goal.invariant-loop-i
invariant-loop-i g l =
    Spelt (field_bytes (drive (g.S.DriveString.meaning l.string) l.place.unit) l.place.head.0 l.place.slot.0 l.from l.i) l.found
