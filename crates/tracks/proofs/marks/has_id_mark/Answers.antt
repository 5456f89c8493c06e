use Rattle.std.proofs.Common.{refl, rules, arith}
use Rattle.std.proofs.lemmas.Iterator.{YieldsList-from_range}
use Rattle.std.proofs.lemmas.Iterator.Search.{any_from_yields_List}
use Rattle.drives.specs.Drives.{drive}
use Rattle.tracks.specs.Marks.{has_id_mark}
use Rattle.tracks.proofs.marks.has_id_mark.Goals as goal

pub returns : goal.returns
unfolding has_id_mark
returns g c =
    let d = drive (g.S.DriveString.meaning c.args.string.now) c.args.track.unit in
    any_from_yields_List _ _ _ _ c.any.ensures.ran (YieldsList-from_range 0 c.geometry-slots.result.slots d.shape.slots refl (grind arith)) (λ s b q k. search rules)
