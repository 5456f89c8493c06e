use Rattle.std.proofs.Common.{◌≡◌, ℕ, ◌++◌, replicate, Ok, sym, ap, ◌∙◌, ap₂, arith}
use Rattle.std.proofs.lemmas.Bool.Decides.{nat_tests}
use Rattle.drives.specs.Drives.{Shape, shape_of}
use Rattle.images.specs.Trailer.{in_bounds}
use Rattle.images.specs.Blank.{blank}
use Rattle.images.proofs.Bounds.{made}
use Rattle.images.proofs.blank.blank_image.Goals as goal

-- a shape that is in bounds is the one that was asked for
asked : (c h s l : ℕ) (g : Shape) → Ok g ≡ in_bounds c h s l → g ≡ record { cylinders = c; heads = h; slots = s; length = l }
asked c h s l g e = grind (arith, nat_tests)

pub returns : goal.returns
returns c =
    let a = c.args in
    let g = shape_of c.in_ok-geometry.geometry in
    let stays = made c.new.result _ a.cylinders a.heads a.slots a.length c.new.ensures c.map_err.ensures.cases c.in_ok-geometry.was in
    let e : g ≡ record { cylinders = a.cylinders; heads = a.heads; slots = a.slots; length = a.length } = asked a.cylinders a.heads a.slots a.length g stays in (
      sym stays ∙ ap Ok e,
      c.in_ok-extend_from_slice.ensures.items
          ∙ ap₂ ◌++◌ (c.in_ok-bytes.ensures.items_if_clones_equal (λ y h. h) ∙ ap (λ n. replicate n 0) c.area.ensures) c.trailer_of.ensures
          ∙ ap blank e,
    )
