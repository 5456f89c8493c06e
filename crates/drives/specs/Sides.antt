-- Which of two joined strings has a unit, and that nothing shows or changes past the eighth.
use Rattle.std.specs.Prelude.{◌≡◌, ℕ, List}
use Rattle.drives.specs.declared.pair.Side.{Side}
use Rattle.drives.specs.declared.pair.Side.TheVariants.{First, Second, Neither}
use Rattle.drives.specs.Drives.{Drive, drive, absent}
use Rattle.drives.specs.Changes.{changed}
use Rattle.drives.specs.Joined.{joined, left_over}

-- unit u of the strings `all` that hold the string zs is its unit v: what shows there shows below, a change there is made
-- below, and the units left over stay
pub record UnitOf (zs : List Drive) (all spare : List Drive → List Drive) (u v : ℕ) : Type 0 where
  pub shows : drive (all zs) u ≡ drive zs v
  pub changes : (f : Drive → Drive) → all (changed zs v f) ≡ changed (all zs) u f
  pub stays : (f : Drive → Drive) → spare (changed zs v f) ≡ spare zs

abbrev pub SideOf : List Drive → List Drive → ℕ → Side → Type 0
SideOf xs ys u (First v) = UnitOf xs (λ zs. joined zs ys) (λ zs. left_over zs ys) u v
SideOf xs ys u (Second v) = UnitOf ys (λ zs. joined xs zs) (λ zs. left_over xs zs) u v
SideOf xs ys u Neither = (drive (joined xs ys) u ≡ absent) × ((f : Drive → Drive) → joined xs ys ≡ changed (joined xs ys) u f)
