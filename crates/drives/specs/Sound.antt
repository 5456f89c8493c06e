-- What every string of drives keeps, whatever stands on it.
use Rattle.std.specs.Prelude.{◌≡◌, ℕ, ◌-◌, ◌≤◌, true, false, not, ◌&&◌, List, length}
use Rattle.drives.specs.declared.parts.Part.{Part}
use Rattle.drives.specs.declared.parts.Line.TheVariants.{Protect}
use Rattle.drives.specs.Bounds.{bounded}
use Rattle.drives.specs.Drives.{Drive, drive, is_place, is_byte}

-- one unit: its shape is within its bounds or all 0; its heads stand on a cylinder that exists, or on 0; a held unit's
-- protect line is 1; and what does not exist shows nothing
pub record SoundDrive (d : Drive) : Type 0 where
  pub bounds : bounded d.shape.cylinders d.shape.heads d.shape.slots d.shape.length ≡ true
  pub standing : d.cylinder ≤ d.shape.cylinders - 1
  pub protected : (d.held && not (d.lines Protect)) ≡ false
  pub no_mark : (p : Part) (c h s : ℕ) → is_place d.shape c h s ≡ false → d.marks p c h s ≡ false
  pub no_byte : (p : Part) (c h s i : ℕ) → is_byte d.shape p c h s i ≡ false → d.bytes p c h s i ≡ 0

-- at most eight units, each sound
pub record Sound (ds : List Drive) : Type 0 where
  pub few : length ds ≤ 8
  pub each : (u : ℕ) → SoundDrive (drive ds u)

-- what the meaning does not name: of memory how long it is, where its first slot begins and what each of its bytes
-- holds besides; of two strings joined the units past the eighth and what either does not name; of a string that is lent
-- which loan it is, so that who lent it gets back what the loan holds at its end
pub data Rest : Type 0 where
  nothing : Rest
  memory : ℕ → ℕ → (ℕ → ℕ) → Rest
  both : List Drive → Rest → Rest → Rest
  loan : ℕ → Rest → Rest
