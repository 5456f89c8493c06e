-- What a turn works on, and what it makes of it.
use Rattle.std.specs.Prelude.{ℕ, List, Ok, Err}
use Rattle.std.specs.declared.ops.ControlFlow.{ControlFlow}
use Rattle.std.specs.declared.ops.ControlFlow.TheVariants.{Break}
use Rattle.drives.specs.declared.string.DriveString.{Ghosts}
use Rattle.drives.specs.Drives.{Drive}
use Rattle.drives.specs.Sound.{Rest}
use Rattle.registers.specs.declared.end.End.{End}
use Rattle.registers.specs.Buffers.{held}
use Rattle.transfers.specs.declared.path.DataPath.{DataPath}
use Rattle.transfers.specs.Tests.{Test}

-- the drives, the bytes in the buffer between them and the host, and the memory that the drives do not name
pub record Path : Type 0 where
  pub drives : List Drive
  pub buffer : List ℕ
  pub rest : Rest

-- what a data path shows, by what its string of drives means
abbrev pub shown : {S : Type 0} → Ghosts S → DataPath S → Path
shown g path = record { drives = g.meaning path.string; buffer = held path.buffer; rest = g.rest path.string }

-- what a string of drives and a buffer beside it show
abbrev pub beside : {S : Type 0} → Ghosts S → S → List ℕ → Path
beside g string buffer = record { drives = g.meaning string; buffer = buffer; rest = g.rest string }

-- a command goes on as it now stands, or it has ended, standing so
abbrev pub Outcome : Type 0 → Type 0
Outcome T = ControlFlow (End × T) T

-- what a turn makes of a running transfer or Format, and of the path
abbrev pub Step : Type 0 → Type 0
Step T = Outcome T × Path

-- a test that fails ends the command as it stands; else it takes its step
abbrev pub unless_ended : {T : Type 0} → Test → T → Path → Step T → Step T
unless_ended (Err end) t p next = (Break (end, t), p)
unless_ended (Ok passed) t p next = next
