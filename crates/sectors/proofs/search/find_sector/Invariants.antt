use Rattle.std.proofs.Common.{◌≡◌, ◌-◌}
use Rattle.check_bytes.specs.Schemes.{divider}
use Rattle.drives.specs.Drives.{drive}
use Rattle.sectors.specs.Search.{wanted_at, first_slot}
use Rattle.sectors.proofs.search.find_sector.Given as goal

abbrev pub invariant-loop-slot : goal.invariant-loop-slot
invariant-loop-slot g l =
    let rule = g.R.CheckRule in
    let test = wanted_at (divider rule l.scheme) (drive (g.S.DriveString.meaning l.string) l.track.unit) l.wanted l.track.head.0 in
    first_slot test l.count 0 ≡ first_slot test (l.count - l.slot) l.slot

abbrev pub decreases-loop-slot : goal.decreases-loop-slot
decreases-loop-slot g l = l.count - l.slot
