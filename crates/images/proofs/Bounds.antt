-- A geometry within the bounds of an image.
use Rattle.std.proofs.Common.{◌≡◌, ℕ, Ok, Err, Result, sym, ap, ◌∙◌, arith}
use Rattle.std.specs.Result.{MatchResult, IsErrAnd}
use Rattle.drives.specs.declared.geometry.Dimension.{Dimension}
use Rattle.drives.specs.declared.geometry.Geometry.{Geometry}
use Rattle.drives.specs.Drives.{shape_of}
use Rattle.drives.specs.Shapes.{shape_answer, bounded_shape}
use Rattle.images.specs.declared.refusal.TrailerField.{TrailerField}
use Rattle.images.specs.Trailer.{in_field, in_bounds}

-- one that is made stays where a refusal is turned into the trailer's field
pub made : (r : Result Geometry Dimension) {m : Result Geometry TrailerField} {g : Geometry} (Q : Dimension → TrailerField → Type 0) (c h s l : ℕ) → shape_answer r ≡ bounded_shape c h s l → MatchResult r (λ x. m ≡ Ok x) (λ e. IsErrAnd m (Q e)) → m ≡ Ok g → Ok (shape_of g) ≡ in_bounds c h s l
made (Ok x) {g = g} Q c h s l e k n = let same : x ≡ g = grind (k, n, arith) in ap (λ y. Ok (shape_of y)) (sym same) ∙ ap in_field e
made (Err d) Q c h s l e k n = absurd (grind (k, n, arith))
