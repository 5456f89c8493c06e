use Rattle.std.proofs.Common.{◌≡◌, get_or}
use Rattle.drives.specs.declared.parts.Part.TheVariants.{Id}
use Rattle.drives.specs.Changes.{changed}
use Rattle.tracks.specs.Writes.{with_bytes}
use Rattle.tracks.proofs.sector.write_id.Given as goal

abbrev pub invariant-loop-i : goal.invariant-loop-i
invariant-loop-i g l =
    (g.S.DriveString.meaning l.string ≡ changed (g.S.DriveString.meaning l.initial.string) l.place.unit (with_bytes Id l.place.head.0 l.place.slot.0 0 (λ k. get_or l.byte-items k 0) l.i))
    × (g.S.DriveString.rest l.string ≡ g.S.DriveString.rest l.initial.string)
