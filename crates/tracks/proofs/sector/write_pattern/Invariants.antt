use Rattle.std.proofs.Common.{◌≡◌}
use Rattle.drives.specs.declared.parts.Part.TheVariants.{Data}
use Rattle.drives.specs.Changes.{changed}
use Rattle.tracks.specs.Writes.{with_bytes}
use Rattle.tracks.proofs.sector.write_pattern.Given as goal

abbrev pub invariant-loop-i : goal.invariant-loop-i
invariant-loop-i g l =
    (g.S.DriveString.meaning l.string ≡ changed (g.S.DriveString.meaning l.initial.string) l.place.unit (with_bytes Data l.place.head.0 l.place.slot.0 0 (λ _. l.value) l.i))
    × (g.S.DriveString.rest l.string ≡ g.S.DriveString.rest l.initial.string)
