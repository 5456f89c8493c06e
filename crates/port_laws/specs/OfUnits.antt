-- Which units a call may alter.
use Rattle.std.specs.Prelude.{◌≡◌, ℕ, true, List, Some, None, Option, ◌≢◌}
use Rattle.drives.specs.declared.parts.Part.{Part}
use Rattle.drives.specs.Drives.{Drive, drive}
use Rattle.drives.specs.Sound.{Sound, Rest}
use Rattle.registers.specs.declared.running.Running.{Running}
use Rattle.registers.specs.declared.running.Running.TheVariants.{Seek, Recalibrate, Transfer, Format}
use Rattle.controller.specs.State.{State}
use Rattle.runs.specs.declared.call.Call.{Call}
use Rattle.runs.specs.declared.call.Call.TheVariants.{WriteData, ReadData, WriteCommand, Turn, TerminalCount, SetLine, Reset}
use Rattle.runs.specs.Calls.{call_step, after}

-- the unit of the running command
abbrev pub unit_in : Option Running → Option ℕ
unit_in None = None
unit_in (Some (Seek unit target)) = Some unit
unit_in (Some (Recalibrate unit pulses)) = Some unit
unit_in (Some (Transfer t)) = Some t.unit
unit_in (Some (Format f)) = Some f.unit

-- the one unit that a call may alter: a turn that of the running command, a line setting its own, all others none
abbrev pub touched : Call → State → Option ℕ
touched (WriteData byte) s = None
touched ReadData s = None
touched (WriteCommand byte) s = None
touched Turn s = unit_in s.registers.running
touched TerminalCount s = None
touched (SetLine unit line value) s = Some unit
touched Reset s = None

-- a call alters no unit but that one
abbrev pub OtherUnitsStay : Type 0
OtherUnitsStay =
    (call : Call) (s : State) (v : ℕ) → (touched call s ≢ Some v) → drive (call_step call s).1.drives v ≡ drive s.drives v

-- the same marks and bytes at every place
pub record SameSectors (d e : Drive) : Type 0 where
  pub marks : (p : Part) (c h s : ℕ) → e.marks p c h s ≡ d.marks p c h s
  pub bytes : (p : Part) (c h s i : ℕ) → e.bytes p c h s i ≡ d.bytes p c h s i

-- no call, in any order and count, alters a byte or a mark of a held unit
abbrev pub HeldUnitsStay : Type 0
HeldUnitsStay =
    (ds : List Drive) (rest : Rest) → Sound ds → (u : ℕ) → (drive ds u).held ≡ true → (calls : List Call) → SameSectors (drive ds u) (drive (after ds rest calls).drives u)
