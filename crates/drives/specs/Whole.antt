-- All that a string of drives holds.
use Rattle.std.specs.Prelude.{ℕ, List}
use Rattle.drives.specs.declared.string.DriveString.{Ghosts}
use Rattle.drives.specs.Drives.{Drive}
use Rattle.drives.specs.Changes.{changed}
use Rattle.drives.specs.Sound.{Rest}

-- its units, and the memory that they do not name
pub record Whole : Type 0 where
  pub drives : List Drive
  pub rest : Rest

abbrev pub whole : {S : Type 0} → Ghosts S → S → Whole
whole g string = record { drives = g.meaning string; rest = g.rest string }

-- unit u changed by f, and nothing else
abbrev pub only : ℕ → (Drive → Drive) → Whole → Whole
only u f w = record w { drives = changed w.drives u f }
