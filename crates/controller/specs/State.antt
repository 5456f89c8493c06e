-- What a controller is, to its contracts.
use Rattle.std.specs.Prelude.{ℕ, false, List, [], None, Option}
use Rattle.drives.specs.declared.string.DriveString.{Ghosts}
use Rattle.drives.specs.Drives.{Drive}
use Rattle.drives.specs.Sound.{Rest}
use Rattle.registers.specs.declared.running.Running.{Running}
use Rattle.registers.specs.declared.status.Flags.{Flags}
use Rattle.registers.specs.declared.units.UnitRecords.{UnitRecords}
use Rattle.registers.specs.Buffers.{held}
use Rattle.registers.specs.Records.{all_zero}
use Rattle.registers.specs.Requests.{no_flags}
use Rattle.transfers.specs.Steps.{Path}
use Rattle.controller.specs.declared.controller.Registers.{Registers}
use Rattle.controller.specs.declared.controller.Controller.{Controller}

-- its drives, the bytes in its buffer, the memory that the drives do not name, and its registers
pub record State : Type 0 where
  pub drives : List Drive
  pub buffer : List ℕ
  pub rest : Rest
  pub registers : Registers

-- what a controller shows, by what its string of drives means
abbrev pub seen : {S : Type 0} → Ghosts S → Controller S → State
seen g c =
    record { drives = g.meaning c.path.string; buffer = held c.path.buffer; rest = g.rest c.path.string; registers = c.registers }

-- a fresh controller: nothing runs, nothing is set, every PCN is 0
abbrev pub fresh : List Drive → Rest → State
fresh ds rest =
    record {
      drives = ds;
      buffer = [];
      rest = rest;
      registers = record { running = None; flags = no_flags; setting = None; units = all_zero; results = false };
    }

-- what a turn of a transfer works on
abbrev pub path_of : State → Path
path_of s = record { drives = s.drives; buffer = s.buffer; rest = s.rest }

-- the state with one thing changed
abbrev pub with_drives : List Drive → State → State
with_drives ds s = record s { drives = ds }

abbrev pub with_buffer : List ℕ → State → State
with_buffer bytes s = record s { buffer = bytes }

abbrev pub with_path : Path → State → State
with_path p s = record s { drives = p.drives; buffer = p.buffer; rest = p.rest }

abbrev pub with_running : Option Running → State → State
with_running r s = record s { registers = record s.registers { running = r } }

abbrev pub with_flags : Flags → State → State
with_flags f s = record s { registers = record s.registers { flags = f } }

abbrev pub with_units : UnitRecords → State → State
with_units units s = record s { registers = record s.registers { units = units } }
