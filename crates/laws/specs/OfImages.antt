-- What is shown of images.
use Rattle.std.specs.Prelude.{◌≡◌, ℕ, ◌<◌, ◌≤◌, Bool, true, false, List, [], ◌∷◌, ◌++◌, length, replicate, Ok, Err}
use Rattle.drives.specs.declared.parts.Line.TheVariants.{Ready, Protect, Fault}
use Rattle.drives.specs.Drives.{Shape, Drive, no_shape}
use Rattle.units.specs.declared.layout.Layout.{Layout}
use Rattle.units.specs.Units.{said, fits, unit_of}
use Rattle.images.specs.declared.refusal.ImageFault.{ImageFault}
use Rattle.images.specs.declared.refusal.ImageFault.TheVariants.{WrongDistance}
use Rattle.images.specs.Trailer.{last, in_bounds, verdict}
use Rattle.images.specs.Refusals.{fault_number}
use Rattle.images.specs.Layers.{unit_verdict}
use Rattle.images.specs.Fresh.{fresh_state}
use Rattle.images.specs.Blank.{blank}

-- a new unit of a shape: ready or not, protect 0, fault 0, at cylinder 0, not held
pub record NewUnit (d : Drive) (g : Shape) (ready : Bool) : Type 0 where
  pub shape : d.shape ≡ g
  pub is_ready : d.lines Ready ≡ ready
  pub unprotected : d.lines Protect ≡ false
  pub no_fault : d.lines Fault ≡ false
  pub at_zero : d.cylinder ≡ 0
  pub free : d.held ≡ false

-- the slots that an accepted image names lie in the image, and a new unit over it has the shape that it says, and is ready
abbrev pub AcceptedImagesHaveTheirShape : Type 0
AcceptedImagesHaveTheirShape =
    (image : List ℕ) (l : Layout) → verdict image ≡ Ok l → (fits l (length image) ≡ true) × NewUnit (unit_of (fresh_state image) image) (said l) true

-- a new unit over a refused image has no places, and is not ready
abbrev pub RefusedImagesHaveNoPlaces : Type 0
RefusedImagesHaveNoPlaces = (image : List ℕ) (f : ImageFault) → verdict image ≡ Err f → NewUnit (unit_of (fresh_state image) image) no_shape false

-- the blank image of numbers within the bounds is accepted, with these numbers, and its first slot is its first byte
abbrev pub BlankImagesAreAccepted : Type 0
BlankImagesAreAccepted =
    (c h s l : ℕ) (g : Shape) → in_bounds c h s l ≡ Ok g → verdict (blank g) ≡ Ok (record { first = 0; cylinders = c; heads = h; slots = s; length = l })

-- an image of one slot of 139 bytes, 128 of them data, whose trailer says that the slot begins d bytes back
abbrev pub one_slot : ℕ → List ℕ
one_slot d = replicate 139 0 ++ (0 ∷ 1 ∷ 1 ∷ 1 ∷ 0 ∷ 128 ∷ 0 ∷ 0 ∷ 0 ∷ 0 ∷ 0 ∷ d ∷ 0x37 ∷ 0x32 ∷ 0x36 ∷ 0x31 ∷ [])

-- at distance 139 it is accepted; at 138 it is refused, with number 4, about the byte where the distance begins
pub record WorkedDistances : Type 0 where
  pub right : verdict (one_slot 139) ≡ Ok (record { first = 0; cylinders = 1; heads = 1; slots = 1; length = 128 })
  pub wrong : unit_verdict (one_slot 138) ≡ Err (record { fault = WrongDistance; position = 147 })
  pub number : fault_number WrongDistance ≡ 4

-- the verdict reads nothing but the length of an image and its last sixteen bytes
abbrev pub ReadOnlyTheTrailer : Type 0
ReadOnlyTheTrailer =
    (xs ys : List ℕ) → length xs ≡ length ys → ((k : ℕ) → 0 < k → k ≤ 16 → last xs k ≡ last ys k) → verdict xs ≡ verdict ys
