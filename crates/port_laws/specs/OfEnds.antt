-- Every command ends.
use Rattle.std.specs.Prelude.{◌≡◌, ℕ, ◌+◌, ◌-◌, ◌*◌, ◌<◌, Bool, true, false, cond, not, ◌&&◌, List, [], ◌∷◌, ◌++◌, length, Some, None, Option, is_some, ◌==◌}
use Rattle.drives.specs.Drives.{Drive}
use Rattle.drives.specs.Sound.{Rest}
use Rattle.registers.specs.declared.running.Running.{Running}
use Rattle.registers.specs.declared.running.Running.TheVariants.{Seek, Recalibrate, Transfer, Format}
use Rattle.registers.specs.declared.running.Stage.{Stage}
use Rattle.registers.specs.declared.running.Stage.TheVariants.{Search, Bytes, CheckBytes, Waiting}
use Rattle.registers.specs.declared.running.FormatStage.{FormatStage}
use Rattle.registers.specs.declared.running.FormatStage.TheVariants.{Opening, Writing}
use Rattle.registers.specs.declared.running.Transfer.{Transfer as SectorTransfer}
use Rattle.registers.specs.declared.units.UnitRecords.{UnitRecords}
use Rattle.registers.specs.Records.{believed}
use Rattle.controller.specs.State.{State}
use Rattle.runs.specs.declared.call.Call.{Call}
use Rattle.runs.specs.declared.call.Call.TheVariants.{WriteData, ReadData, WriteCommand, Turn, TerminalCount, SetLine, Reset}
use Rattle.runs.specs.Calls.{after}

-- the turns of one sector: its search, DTL bytes, its check
abbrev pub sector_turns : SectorTransfer → ℕ
sector_turns t = t.setting.length + 2

-- a bound on the turns that are left: SCNT sectors, and one more turn for a waiting end
abbrev pub stage_left : Stage → SectorTransfer → ℕ
stage_left (Search first) t = t.numbers.count * sector_turns t + 1
stage_left (Bytes slot done) t = (t.numbers.count - 1) * sector_turns t + (t.setting.length - done) + 2
stage_left (CheckBytes slot) t = (t.numbers.count - 1) * sector_turns t + 2
stage_left (Waiting end) t = 1

abbrev pub slots_left : FormatStage → ℕ → ℕ
slots_left Opening count = count + 1
slots_left (Writing slot) count = count

-- how far two cylinders are apart
abbrev pub distance : ℕ → ℕ → ℕ
distance a b = (a - b) + (b - a)

-- Seek: the cylinders between PCN and the target, and one; Recalibrate: 1,023 pulses, and one
abbrev pub left_of : Option Running → UnitRecords → ℕ
left_of None units = 0
left_of (Some (Seek unit target)) units = distance (believed units unit) target.0 + 1
left_of (Some (Recalibrate unit pulses)) units = 1024 - pulses
left_of (Some (Transfer t)) units = stage_left t.stage t
left_of (Some (Format f)) units = slots_left f.stage f.count

abbrev pub turns_left : State → ℕ
turns_left s = left_of s.registers.running s.registers.units

abbrev pub busy : State → Bool
busy s = is_some s.registers.running

abbrev pub waits_in : Stage → Bool
waits_in (Search first) = false
waits_in (Bytes slot done) = false
waits_in (CheckBytes slot) = false
waits_in (Waiting end) = true

-- Read Data's end waits, and the host has not taken all bytes
abbrev pub waits : Option Running → List ℕ → Bool
waits (Some (Transfer t)) buffer = waits_in t.stage && not (length buffer == 0)
waits other buffer = false

-- a call counts if it is a turn that does not wait for the host
abbrev pub counts : Call → State → ℕ
counts (WriteData byte) s = 0
counts ReadData s = 0
counts (WriteCommand byte) s = 0
counts Turn s = cond (waits s.registers.running s.buffer) 0 1
counts TerminalCount s = 0
counts (SetLine unit line value) s = 0
counts Reset s = 0

-- what is written to the data register is a byte
abbrev pub IsByte : Call → Type 0
IsByte (WriteData byte) = byte < 256
IsByte ReadData = Unit {0}
IsByte (WriteCommand byte) = Unit {0}
IsByte Turn = Unit {0}
IsByte TerminalCount = Unit {0}
IsByte (SetLine unit line value) = Unit {0}
IsByte Reset = Unit {0}

abbrev pub AreBytes : List Call → Type 0
AreBytes [] = Unit {0}
AreBytes (call ∷ past) = IsByte call × AreBytes past

module _ (ds : List Drive) (rest : Rest) (past : List Call) where
  -- CB is 1 at the moment after `past` and at every moment from then on
  abbrev pub StaysBusy : List Call → Type 0
  StaysBusy [] = busy (after ds rest past) ≡ true
  StaysBusy (call ∷ more) = StaysBusy more × (busy (after ds rest (call ∷ (more ++ past))) ≡ true)

  -- the turns among them, but for those that wait for the host to take bytes
  abbrev pub turns_among : List Call → ℕ
  turns_among [] = 0
  turns_among (call ∷ more) = turns_among more + counts call (after ds rest (more ++ past))

-- whatever the host does, a command that runs after some calls is over once so many turns are made as are left by its
-- parameters, DTL and PCN, not counting those that wait for the host
abbrev pub CommandsEnd : Type 0
CommandsEnd =
    (ds : List Drive) (rest : Rest) (past more : List Call) → AreBytes (more ++ past) → StaysBusy ds rest past more → turns_among ds rest past more < turns_left (after ds rest past)
