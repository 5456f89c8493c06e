-- Refusals in words.
use Rattle.std.specs.Prelude.{ℕ, List, [], ◌∷◌, codes, decimal}
use Rattle.std.specs.List.{concat}
use Rattle.images.specs.declared.blank.BlankFault.{BlankFault}
use Rattle.images.specs.declared.blank.BlankFault.TheVariants.{OutOfBounds, NoMemory}
use Rattle.images.specs.declared.layers.StringRefusal.{StringRefusal}
use Rattle.images.specs.Refusals.{fault_number}

-- why there is no blank image
abbrev pub blank_text : BlankFault → List ℕ
blank_text (OutOfBounds field) = codes "the geometry is out of bounds"
blank_text NoMemory = codes "there is no memory for the image"

-- a string's refused image: the refusal's number, then the unit and the byte that it is about
abbrev pub refusal_text : StringRefusal → List ℕ
refusal_text r =
    concat (codes "refused " ∷ decimal (fault_number r.refusal.fault) ∷ codes ", unit " ∷ decimal r.unit ∷ codes ", byte " ∷ decimal r.refusal.position ∷ [])
