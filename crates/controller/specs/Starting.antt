-- What a command byte does.
use Rattle.std.specs.Prelude.{ℕ, ◌+◌, ◌*◌, Bool, true, false, cond, ◌&&◌, List, [], ◌∷◌, length, is_some, Some, None, Ok, Err, Option, Result, ◌==◌, nat_lt, slice_index}
use Rattle.drives.specs.declared.parts.Line.TheVariants.{Ready, Fault}
use Rattle.drives.specs.Drives.{Drive, drive}
use Rattle.registers.specs.declared.command.Auxiliary.{Auxiliary}
use Rattle.registers.specs.declared.command.Command.{Command}
use Rattle.registers.specs.declared.command.Command.TheVariants as command
use Rattle.registers.specs.declared.kind.Kind.{Kind}
use Rattle.registers.specs.declared.numbers.Numbers.{Numbers}
use Rattle.registers.specs.declared.refusal.Refusal.{Refusal}
use Rattle.registers.specs.declared.running.Running.{Running}
use Rattle.registers.specs.declared.running.Running.TheVariants as running
use Rattle.registers.specs.declared.running.Stage.TheVariants.{Search}
use Rattle.registers.specs.declared.running.FormatStage.TheVariants.{Opening}
use Rattle.registers.specs.declared.setting.Setting.{Setting}
use Rattle.registers.specs.declared.status.Flags.{Flags}
use Rattle.registers.specs.Bits.{weight}
use Rattle.registers.specs.Commands.{decided}
use Rattle.registers.specs.Records.{recalled}
use Rattle.registers.specs.Requests.{no_flags}
use Rattle.registers.specs.Settings.{specified}
use Rattle.transfers.specs.Tests.{is_present}
use Rattle.transfers.specs.Transfers.{sector_wants}
use Rattle.controller.specs.State.{State, with_buffer, with_flags, with_units}
use Rattle.controller.specs.Ending.{ended, plain_flags}

-- the parameters in the buffer; results are none
abbrev pub parameters : State → List ℕ
parameters s = cond s.registers.results [] s.buffer

-- a disk command is taken: the buffer is empty, the other status bits are 0, and it runs
abbrev pub begun : Option Running → State → State
begun r s =
    record s { buffer = []; registers = record s.registers { running = r; flags = no_flags; results = false } }

-- an invalid one leaves CEH and CEL 1, CB 0 and the buffer empty; an earlier Specify stays in force
abbrev pub both_ends : Flags
both_ends = record { ended_high = true; ended_low = true; reset_request = false; id_error = false }

-- the whole of an invalid command
abbrev pub invalid : State → State
invalid s = with_flags both_ends (begun None s)

-- the reset pin and RST: the running command ends without results; buffer, status and Specify's setting are cleared, PCN
-- stays
abbrev pub reset_done : State → State
reset_done s =
    record s { buffer = []; registers = record s.registers { running = None; flags = no_flags; setting = None; results = false } }

-- CLCE clears CEH and CEL
abbrev pub end_cleared : State → State
end_cleared s = with_flags (record s.registers.flags { ended_high = false; ended_low = false }) s

-- CLB empties the buffer, only while CB is 0
abbrev pub buffer_cleared : State → State
buffer_cleared s = cond (is_some s.registers.running) s (with_buffer [] s)

-- RST alone acts if it is set; the other bits combine
abbrev pub auxiliary_done : Auxiliary → State → State
auxiliary_done a s =
    cond a.reset (reset_done s)
    (cond a.clear_end
    (cond a.clear_buffer (end_cleared (buffer_cleared s)) (end_cleared s))
    (cond a.clear_buffer (buffer_cleared s) s))

-- Specify ends normally within the call, without results, or is invalid
abbrev pub setting_made : Option Setting → State → State
setting_made None s = invalid s
setting_made (Some setting) s =
    record s {
      buffer = [];
      registers = record s.registers { running = None; flags = plain_flags true; setting = Some setting; results = true };
    }

-- UST, bit 4 to 0: selected, seek complete (1), track 000, ready, fault
abbrev pub unit_status : Drive → ℕ
unit_status d = 0x18 + weight (d.cylinder == 0) 0x04 + weight (d.lines Ready) 0x02 + weight (d.lines Fault) 0x01

-- Sense Unit Status ends normally within the call with UST, 00 for a missing unit
abbrev pub sensed : ℕ → State → State
sensed unit s = ended (plain_flags true) (cond (is_present unit s.drives) (unit_status (drive s.drives unit)) 0 ∷ []) s

-- Recalibrate sets PCN to 0 when it is accepted
abbrev pub recalibrate_begun : ℕ → State → State
recalibrate_begun unit s = with_units (recalled s.registers.units unit) (begun (Some (running.Recalibrate unit 0)) s)

-- Seek's parameters are PCNH, PCNL
abbrev pub seek_begun : ℕ → List ℕ → State → State
seek_begun unit p s = begun (Some (running.Seek unit (record { 0 = slice_index p 0 * 256 + slice_index p 1 }))) s

-- Format's parameters are PHN, SCNT (above 0), DPAT, GPL1, GPL3 (at most 44). It wants four bytes for each slot.
abbrev pub format_legal : List ℕ → Bool
format_legal p = nat_lt 0 (slice_index p 1) && nat_lt (slice_index p 4) 45

-- with other parameters it is invalid
abbrev pub format_begun : ℕ → Setting → List ℕ → State → State
format_begun unit setting p s =
    cond (format_legal p)
    (begun (Some (running.Format (record {
      unit = unit;
      setting = setting;
      head = record { 0 = slice_index p 0 };
      count = slice_index p 1;
      pattern = slice_index p 2;
      stage = Opening;
      wanted = 4 * slice_index p 1;
    }))) s)
    (invalid s)

-- the parameters of Read Data, Check and Write Data are PHN, LCNH, LCNL, LHN, LSN, SCNT (above 0)
abbrev pub numbers_of : List ℕ → Numbers
numbers_of p =
    record {
      head = record { 0 = slice_index p 0 };
      address = record { cylinder = record { 0 = slice_index p 1 * 256 + slice_index p 2 }; head = record { 0 = slice_index p 3 }; sector = record { 0 = slice_index p 4 } };
      count = slice_index p 5;
    }

-- with SCNT 0 they are invalid
abbrev pub transfer_begun : Kind → ℕ → Setting → List ℕ → State → State
transfer_begun kind unit setting p s =
    cond (nat_lt 0 (slice_index p 5))
    (begun (Some (running.Transfer (record {
      kind = kind;
      unit = unit;
      setting = setting;
      numbers = numbers_of p;
      stage = Search true;
      wanted = sector_wants kind setting;
      cut = false;
    }))) s)
    (invalid s)

-- what a command does
abbrev pub commanded : Command → State → State
commanded (command.Auxiliary a) s = auxiliary_done a s
commanded command.Specify s = setting_made (specified (parameters s)) s
commanded (command.SenseUnitStatus unit) s = sensed unit s
commanded (command.Recalibrate unit) s = recalibrate_begun unit s
commanded (command.Seek unit) s = seek_begun unit (parameters s) s
commanded (command.Format unit setting) s = format_begun unit setting (parameters s) s
commanded (command.Transfer kind unit setting) s = transfer_begun kind unit setting (parameters s) s
commanded command.Invalid s = invalid s

-- a call is accepted, or declined
abbrev pub Answer : Type 0
Answer = Result (Unit {0}) Refusal

-- a command that is refused does nothing
abbrev pub unless_refused : Result Command Refusal → State → Answer × State
unless_refused (Ok c) s = (Ok tt, commanded c s)
unless_refused (Err refusal) s = (Err refusal, s)

-- a byte written to the command register
abbrev pub command_step : ℕ → State → Answer × State
command_step byte s =
    unless_refused (decided byte (length (parameters s)) (is_some s.registers.running) s.registers.setting) s
