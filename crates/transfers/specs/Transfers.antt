-- Turns of Read Data, Check and Write Data.
use Rattle.std.specs.Prelude.{ℕ, ◌+◌, Bool, false, cond, not, ◌&&◌, List, [], ◌∷◌, length, Ok, Err, Some, None, Option, ◌==◌, nat_lt}
use Rattle.std.specs.declared.ops.ControlFlow.TheVariants.{Continue, Break}
use Rattle.std.specs.Result.{result_and}
use Rattle.check_bytes.specs.Schemes.{divider_of}
use Rattle.drives.specs.declared.numbers.Slot.{Slot}
use Rattle.drives.specs.declared.parts.Line.TheVariants.{Protect}
use Rattle.drives.specs.declared.parts.Part.TheVariants.{Data}
use Rattle.drives.specs.Drives.{Drive, drive, mark_here, byte_here}
use Rattle.drives.specs.Changes.{changed, with_mark, with_byte}
use Rattle.sectors.specs.Fields.{field_checks}
use Rattle.sectors.specs.Search.{is_right, wanted_at, first_slot}
use Rattle.tracks.specs.Marks.{has_id_mark, has_wrong_id}
use Rattle.tracks.specs.Writes.{sector_closed}
use Rattle.registers.specs.declared.end.End.{End}
use Rattle.registers.specs.declared.end.End.TheVariants.{Normal, EndOfCylinder, Overrun, DataError, EquipmentCheck, NoData, NotWritable, MissingMark, NoIds}
use Rattle.registers.specs.declared.kind.Kind.{Kind}
use Rattle.registers.specs.declared.kind.Kind.TheVariants.{Read, Check, Write}
use Rattle.registers.specs.declared.numbers.Numbers.{Numbers}
use Rattle.registers.specs.declared.running.Stage.{Stage}
use Rattle.registers.specs.declared.running.Stage.TheVariants.{Search, Bytes, CheckBytes, Waiting}
use Rattle.registers.specs.declared.running.Transfer.{Transfer}
use Rattle.registers.specs.declared.setting.Setting.{Setting}
use Rattle.registers.specs.Addresses.{advanced, is_last, counted}
use Rattle.registers.specs.Buffers.{added}
use Rattle.registers.specs.Kinds.{hands_out, takes_bytes, writes}
use Rattle.registers.specs.Settings.{id_scheme, data_scheme}
use Rattle.transfers.specs.Tests.{Test, line_test}
use Rattle.transfers.specs.Steps.{Path, Outcome, Step, unless_ended}

-- ---- tests before every turn, and more in the first

-- in the first turn: L below DTL, EQC; protect for Write Data, NWR
abbrev pub first_test : Transfer → List Drive → Test
first_test t ds =
    cond (nat_lt (drive ds t.unit).shape.length t.setting.length) (Err EquipmentCheck)
    (cond (writes t.kind && (drive ds t.unit).lines Protect) (Err NotWritable) (Ok tt))

-- the tests of a stage: none but before the first search
abbrev pub stage_test : Stage → Transfer → List Drive → Test
stage_test (Search first) t ds = cond first (first_test t ds) (Ok tt)
stage_test (Bytes slot done) t ds = Ok tt
stage_test (CheckBytes slot) t ds = Ok tt
stage_test (Waiting end) t ds = Ok tt

-- all tests of a turn, those of the unit's lines first
abbrev pub turn_test : Transfer → List Drive → Test
turn_test t ds = result_and (line_test t.unit ds) (stage_test t.stage t ds)

-- ---- ends

-- an end that a search or a check decides: Read Data's waits and shows no bit, the others' are made at once
abbrev pub stopped : End → Transfer → Outcome Transfer
stopped end t = cond (hands_out t.kind) (Continue (record t { stage = Waiting end })) (Break (end, t))

-- ---- the search turn

-- the first slot of the track PHN, from slot 0, that has the wanted sector
abbrev pub search : Transfer → Drive → Option Slot
search t d =
    first_slot (wanted_at (divider_of (id_scheme t.setting)) d t.numbers.address t.numbers.head.0) d.shape.slots 0

-- where there is none: RRQ without any ID mark on the track, else ND, with IER if some marked ID has a wrong check
abbrev pub not_found : Transfer → Drive → End
not_found t d =
    cond (has_id_mark d t.numbers.head.0)
    (NoData (has_wrong_id (divider_of (id_scheme t.setting)) d t.numbers.head.0))
    NoIds

-- Write Data opens the sector: the data mark goes to 0
abbrev pub opened : Slot → Transfer → Path → Path
opened slot t p = record p { drives = changed p.drives t.unit (with_mark Data t.numbers.head.0 slot.0 false) }

-- Read Data and Check need the data mark of what they find, else MAM
abbrev pub found : Slot → Transfer → Path → Step Transfer
found slot t p =
    cond (writes t.kind) (Continue (record t { stage = Bytes slot 0 }), opened slot t p)
    (cond (mark_here (drive p.drives t.unit) Data t.numbers.head.0 slot.0) (Continue (record t { stage = Bytes slot 0 }), p) (stopped MissingMark t, p))

-- what follows a search
abbrev pub on_search : Option Slot → Transfer → Path → Step Transfer
on_search None t p = (stopped (not_found t (drive p.drives t.unit)) t, p)
on_search (Some slot) t p = found slot t p

-- the whole search turn
abbrev pub search_turn : Transfer → Path → Step Transfer
search_turn t p = on_search (search t (drive p.drives t.unit)) t p

-- ---- the byte turns

-- one byte more of the sector is done
abbrev pub byte_done : Slot → ℕ → Transfer → Outcome Transfer
byte_done slot done t =
    Continue (record t { stage = cond (nat_lt (done + 1) t.setting.length) (Bytes slot (done + 1)) (CheckBytes slot) })

-- Read Data: a full buffer is OVR; after terminal count the bytes are hidden, and reach no buffer
abbrev pub byte_read : Slot → ℕ → Transfer → Path → Step Transfer
byte_read slot done t p =
    cond t.cut (byte_done slot done t, p)
    (cond (nat_lt (length p.buffer) 8)
    (byte_done slot done t, record p { buffer = added p.buffer (byte_here (drive p.drives t.unit) Data t.numbers.head.0 slot.0 done) })
    (Break (Overrun, t), p))

-- Write Data writes a byte at once
abbrev pub byte_put : ℕ → Slot → ℕ → Transfer → Path → Step Transfer
byte_put byte slot done t p =
    (byte_done slot done t, record p { drives = changed p.drives t.unit (with_byte Data t.numbers.head.0 slot.0 done byte) })

-- it takes the oldest byte; an empty buffer is OVR, or after terminal count a byte 00
abbrev pub byte_taken : Slot → ℕ → Transfer → List ℕ → Path → Step Transfer
byte_taken slot done t [] p = cond t.cut (byte_put 0 slot done t p) (Break (Overrun, t), p)
byte_taken slot done t (byte ∷ rest) p = byte_put byte slot done t (record p { buffer = rest })

-- a byte turn; Check moves no byte
abbrev pub byte_turn : Kind → Slot → ℕ → Transfer → Path → Step Transfer
byte_turn Read slot done t p = byte_read slot done t p
byte_turn Check slot done t p = (byte_done slot done t, p)
byte_turn Write slot done t p = byte_taken slot done t p.buffer p

-- ---- the check turn

-- the bytes that a sector wants from the moment it is next
abbrev pub sector_wants : Kind → Setting → ℕ
sector_wants kind setting = cond (takes_bytes kind) setting.length 0

-- the next sector: its bytes are wanted from now on, and no terminal count came for it
abbrev pub onward : Numbers → Transfer → Transfer
onward n t = record t { numbers = n; stage = Search false; wanted = sector_wants t.kind t.setting; cut = false }

-- with SCNT fallen by 1: if LSN is ESN and LHN is ETN and SCNT is not 0, the end is ENC and the numbers stay. Otherwise
-- they advance, and SCNT 0 ends normally.
abbrev pub counted_on : Numbers → Transfer → Outcome Transfer
counted_on n t =
    cond (is_last t.setting n && not (n.count == 0)) (stopped EndOfCylinder (record t { numbers = n }))
    (cond (n.count == 0) (stopped Normal (record t { numbers = advanced t.setting n }))
    (Continue (onward (advanced t.setting n) t)))

-- a sector is done
abbrev pub sector_done : Transfer → Outcome Transfer
sector_done t = counted_on (counted t.numbers) t

-- the check that stands after DTL data bytes is the right one
abbrev pub check_stands : Transfer → Slot → Drive → Bool
check_stands t slot d =
    is_right (field_checks (divider_of (data_scheme t.setting)) d t.numbers.head.0 slot.0 t.setting.length)

-- Write Data writes the check and closes the sector: the data mark goes to 1
abbrev pub closed : Slot → Transfer → Path → Path
closed slot t p =
    record p {
      drives =
          changed p.drives t.unit
          (sector_closed (divider_of (data_scheme t.setting)) t.numbers.head.0 slot.0 t.setting.length);
    }

-- for the others a wrong check is DER
abbrev pub check_turn : Slot → Transfer → Path → Step Transfer
check_turn slot t p =
    cond (writes t.kind) (sector_done t, closed slot t p)
    (cond (check_stands t slot (drive p.drives t.unit)) (sector_done t, p) (stopped DataError t, p))

-- ---- the whole turn

-- a waiting end is made by the first turn that finds the buffer empty
abbrev pub waiting_turn : End → Transfer → List ℕ → Outcome Transfer
waiting_turn end t buffer = cond (length buffer == 0) (Break (end, t)) (Continue t)

-- the turn of a stage
abbrev pub stage_turn : Stage → Transfer → Path → Step Transfer
stage_turn (Search first) t p = search_turn t p
stage_turn (Bytes slot done) t p = byte_turn t.kind slot done t p
stage_turn (CheckBytes slot) t p = check_turn slot t p
stage_turn (Waiting end) t p = (waiting_turn end t p.buffer, p)

-- the tests, and the turn of the stage
abbrev pub transfer_turn : Transfer → Path → Step Transfer
transfer_turn t p = unless_ended (turn_test t p.drives) t p (stage_turn t.stage t p)
