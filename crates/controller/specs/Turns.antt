-- What a turn does.
use Rattle.std.specs.Prelude.{ℕ, ◌+◌, cond, not, Some, None, Option, ◌==◌, nat_le, nat_lt}
use Rattle.std.specs.declared.ops.ControlFlow.TheVariants.{Continue, Break}
use Rattle.drives.specs.declared.numbers.PhysicalCylinder.{PhysicalCylinder}
use Rattle.drives.specs.declared.parts.Direction.{Direction}
use Rattle.drives.specs.declared.parts.Direction.TheVariants.{Inward, Outward}
use Rattle.drives.specs.Drives.{drive}
use Rattle.drives.specs.Changes.{changed, pulsed}
use Rattle.registers.specs.declared.end.SeekEnd.TheVariants.{Reached, NotReady, EquipmentCheck}
use Rattle.registers.specs.declared.running.Format.{Format}
use Rattle.registers.specs.declared.running.Running.{Running}
use Rattle.registers.specs.declared.running.Running.TheVariants as running
use Rattle.registers.specs.declared.running.Transfer.{Transfer}
use Rattle.registers.specs.Records.{believed, moved}
use Rattle.transfers.specs.Tests.{is_ready}
use Rattle.transfers.specs.Steps.{Outcome, Step}
use Rattle.transfers.specs.Transfers.{transfer_turn}
use Rattle.transfers.specs.Formats.{format_turn}
use Rattle.controller.specs.State.{State, path_of, with_drives, with_path, with_running, with_units}
use Rattle.controller.specs.Ending.{seek_ended, transfer_ended, format_ended}

-- one step pulse, and PCN follows it
abbrev pub pulse_followed : ℕ → Direction → State → State
pulse_followed unit direction s =
    with_units (moved s.registers.units unit direction) (with_drives (changed s.drives unit (pulsed direction)) s)

-- from the cylinder that it believes in to the target
abbrev pub towards : ℕ → ℕ → Direction
towards from target = cond (nat_lt from target) Inward Outward

-- not ready ends abnormally with SER and NR; PCN equal to the target ends with SEN; else one pulse, and PCN follows
abbrev pub seek_turn : ℕ → PhysicalCylinder → State → State
seek_turn unit target s =
    cond (not (is_ready unit s.drives)) (seek_ended NotReady unit s)
    (cond (believed s.registers.units unit == target.0) (seek_ended Reached unit s)
    (pulse_followed unit (towards (believed s.registers.units unit) target.0) s))

-- the same ready test; SEN if the heads stand at 0; SER and EQC if 1,023 pulses have left them elsewhere; else one pulse
-- outward, and PCN stays
abbrev pub recalibrate_turn : ℕ → ℕ → State → State
recalibrate_turn unit pulses s =
    cond (not (is_ready unit s.drives)) (seek_ended NotReady unit s)
    (cond ((drive s.drives unit).cylinder == 0) (seek_ended Reached unit s)
    (cond (nat_le 1023 pulses) (seek_ended EquipmentCheck unit s)
    (with_running (Some (running.Recalibrate unit (pulses + 1))) (with_drives (changed s.drives unit (pulsed Outward)) s))))

-- after a turn a transfer goes on, or it ends
abbrev pub transfer_follows : Outcome Transfer → State → State
transfer_follows (Continue t) s = with_running (Some (running.Transfer t)) s
transfer_follows (Break (end, t)) s = transfer_ended end t.numbers s

-- likewise a Format
abbrev pub format_follows : Outcome Format → State → State
format_follows (Continue f) s = with_running (Some (running.Format f)) s
format_follows (Break (end, f)) s = format_ended end f.count s

-- what follows a step, with the path as it leaves it
abbrev pub followed : {T : Type 0} → (Outcome T → State → State) → Step T → State → State
followed follows (outcome, path) s = follows outcome (with_path path s)

-- one step of a command; none where none runs
abbrev pub turn_of : Option Running → State → State
turn_of None s = s
turn_of (Some (running.Seek unit target)) s = seek_turn unit target s
turn_of (Some (running.Recalibrate unit pulses)) s = recalibrate_turn unit pulses s
turn_of (Some (running.Transfer t)) s = followed transfer_follows (transfer_turn t (path_of s)) s
turn_of (Some (running.Format f)) s = followed format_follows (format_turn f (path_of s)) s

-- one step of the running command
abbrev pub turned : State → State
turned s = turn_of s.registers.running s
