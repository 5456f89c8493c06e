-- Turns of Format.
use Rattle.std.specs.Prelude.{ℕ, ◌+◌, ◌-◌, cond, ◌||◌, List, length, take, drop, Ok, Err, ◌==◌, nat_le, nat_lt}
use Rattle.std.specs.declared.ops.ControlFlow.TheVariants.{Continue, Break}
use Rattle.std.specs.Result.{result_and}
use Rattle.check_bytes.specs.Schemes.{divider_of}
use Rattle.drives.specs.declared.numbers.Slot.{Slot}
use Rattle.drives.specs.declared.parts.Line.TheVariants.{Protect}
use Rattle.drives.specs.Drives.{Drive, drive}
use Rattle.drives.specs.Changes.{changed}
use Rattle.tracks.specs.Marks.{track_opened}
use Rattle.tracks.specs.Writes.{sector_formatted}
use Rattle.registers.specs.declared.end.End.TheVariants.{Normal, EndOfCylinder, Overrun, EquipmentCheck, NotWritable}
use Rattle.registers.specs.declared.running.Format.{Format}
use Rattle.registers.specs.declared.running.FormatStage.{FormatStage}
use Rattle.registers.specs.declared.running.FormatStage.TheVariants.{Opening, Writing}
use Rattle.registers.specs.Settings.{id_scheme, data_scheme}
use Rattle.transfers.specs.Tests.{Test, line_test}
use Rattle.transfers.specs.Steps.{Path, Outcome, Step, unless_ended}

-- in the first turn: L below DTL, or PHN not below H, EQC; then protect, NWR
abbrev pub first_format_test : Format → List Drive → Test
first_format_test f ds =
    cond (nat_lt (drive ds f.unit).shape.length f.setting.length || nat_le (drive ds f.unit).shape.heads f.head.0) (Err EquipmentCheck)
    (cond ((drive ds f.unit).lines Protect) (Err NotWritable) (Ok tt))

-- the tests of a stage: none but before the first turn
abbrev pub format_stage_test : FormatStage → Format → List Drive → Test
format_stage_test Opening f ds = first_format_test f ds
format_stage_test (Writing slot) f ds = Ok tt

-- all tests of a turn, those of the unit's lines first
abbrev pub format_test : Format → List Drive → Test
format_test f ds = result_and (line_test f.unit ds) (format_stage_test f.stage f ds)

-- the first turn opens all slots of the track: both marks go to 0
abbrev pub track_turn : Format → Path → Step Format
track_turn f p =
    (Continue (record f { stage = Writing (record { 0 = 0 }) }), record p { drives = changed p.drives f.unit (track_opened f.head.0) })

-- a slot is closed with both marks, its ID, DTL bytes DPAT and both checks
abbrev pub slot_closed : Slot → List ℕ → Format → List Drive → List Drive
slot_closed slot numbers f ds =
    changed ds f.unit
    (sector_formatted (divider_of (id_scheme f.setting)) (divider_of (data_scheme f.setting)) f.head.0 slot.0 numbers f.setting.length f.pattern)

-- SCNT has fallen to `left`, and 0 ends normally
abbrev pub slots_left : ℕ → Slot → Format → Outcome Format
slots_left left slot f =
    cond (left == 0) (Break (Normal, record f { count = left })) (Continue (record f { count = left; stage = Writing (record { 0 = slot.0 + 1 }) }))

-- four bytes LCNH, LCNL, LHN, LSN are taken, and the slot is closed
abbrev pub slot_taken : Slot → Format → Path → Step Format
slot_taken slot f p =
    (slots_left (f.count - 1) slot f, record p { drives = slot_closed slot (take 4 p.buffer) f p.drives; buffer = drop 4 p.buffer })

-- a later turn is for the next slot: one beyond S is ENC, before any byte is taken; fewer than four bytes are OVR
abbrev pub slot_turn : Slot → Format → Path → Step Format
slot_turn slot f p =
    cond (nat_le (drive p.drives f.unit).shape.slots slot.0) (Break (EndOfCylinder, f), p)
    (cond (nat_lt (length p.buffer) 4) (Break (Overrun, f), p) (slot_taken slot f p))

-- the turn of a stage
abbrev pub format_stage_turn : FormatStage → Format → Path → Step Format
format_stage_turn Opening f p = track_turn f p
format_stage_turn (Writing slot) f p = slot_turn slot f p

-- the tests, and the turn of the stage
abbrev pub format_turn : Format → Path → Step Format
format_turn f p = unless_ended (format_test f p.drives) f p (format_stage_turn f.stage f p)
