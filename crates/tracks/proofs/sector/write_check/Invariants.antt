use Rattle.std.proofs.Common.{◌≡◌}
use Rattle.check_bytes.specs.Schemes.{divider}
use Rattle.drives.specs.declared.parts.Part.TheVariants.{Data}
use Rattle.drives.specs.Drives.{drive}
use Rattle.drives.specs.Changes.{changed}
use Rattle.sectors.specs.Fields.{field_bytes}
use Rattle.tracks.specs.Writes.{with_bytes, byte_of_check}
use Rattle.tracks.proofs.sector.write_check.Given as goal

abbrev pub invariant-loop-i : goal.invariant-loop-i
invariant-loop-i g l =
    let ds = g.S.DriveString.meaning l.initial.string in
    let p = l.place in
    let check = byte_of_check (divider g.R.CheckRule l.scheme) (field_bytes (drive ds p.unit) p.head.0 p.slot.0 0 l.length) in
    (g.S.DriveString.meaning l.string ≡ changed ds p.unit (with_bytes Data p.head.0 p.slot.0 l.length check l.i))
    × (g.S.DriveString.rest l.string ≡ g.S.DriveString.rest l.initial.string)
