use Rattle.check_bytes.specs.Schemes.{divider}
use Rattle.drives.specs.Drives.{drive}
use Rattle.sectors.specs.Fields.{field_bytes}
use Rattle.sectors.proofs.Runs.{Fed}
use Rattle.sectors.proofs.field.right_check.Given as goal

abbrev pub invariant-loop-i : goal.invariant-loop-i
invariant-loop-i g l =
    let rule = g.R.CheckRule in
    Fed (divider rule l.scheme) (field_bytes (drive (g.S.DriveString.meaning l.string) l.place.unit) l.place.head.0 l.place.slot.0 0 l.i) l.register
