use Rattle.std.proofs.Common.{◌≡◌}
use Rattle.drives.specs.Changes.{changed}
use Rattle.tracks.specs.Marks.{lowered}
use Rattle.tracks.proofs.marks.open_track.Given as goal

abbrev pub invariant-loop-slot : goal.invariant-loop-slot
invariant-loop-slot g l =
    (g.S.DriveString.meaning l.string ≡ changed (g.S.DriveString.meaning l.initial.string) l.track.unit (lowered l.track.head.0 l.slot))
    × (g.S.DriveString.rest l.string ≡ g.S.DriveString.rest l.initial.string)
