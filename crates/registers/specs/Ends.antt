-- How commands end, and what their results and status bits then show.
use Rattle.std.specs.Prelude.{ℕ, ◌+◌, ◌%◌, Bool, true, false}
use Rattle.registers.specs.declared.end.End.{End}
use Rattle.registers.specs.declared.end.End.TheVariants.{Normal, EndOfCylinder, Overrun, DataError, EquipmentCheck, NotReady, NoData, NotWritable, MissingMark, NoIds}
use Rattle.registers.specs.declared.end.SeekEnd.{SeekEnd}
use Rattle.registers.specs.declared.end.SeekEnd.TheVariants as seek

-- the error byte EST, bit 7 to 0: ENC, OVR, DER, EQC, NR, ND, NWR, MAM
abbrev pub error_byte : End → ℕ
error_byte Normal = 0x00
error_byte EndOfCylinder = 0x80
error_byte Overrun = 0x40
error_byte DataError = 0x20
error_byte EquipmentCheck = 0x10
error_byte NotReady = 0x08
error_byte (NoData wrong_id) = 0x04
error_byte NotWritable = 0x02
error_byte MissingMark = 0x01
error_byte NoIds = 0x00

-- a normal end sets CEH, any other CEL
abbrev pub is_normal : End → Bool
is_normal Normal = true
is_normal _ = false

-- RRQ comes where the track has no ID mark
abbrev pub requests_reset : End → Bool
requests_reset NoIds = true
requests_reset _ = false

-- IER comes with ND, where some marked ID of the track has a wrong check
abbrev pub shows_id_error : End → Bool
shows_id_error (NoData wrong_id) = wrong_id
shows_id_error _ = false

-- the interrupt status byte IST, bit 7 to 3: SEN, RC, SER, EQC, NR; then the unit
abbrev pub seek_byte : SeekEnd → ℕ → ℕ
seek_byte seek.Reached unit = 0x80 + unit % 8
seek_byte seek.NotReady unit = 0x28 + unit % 8
seek_byte seek.EquipmentCheck unit = 0x30 + unit % 8

abbrev pub seek_normal : SeekEnd → Bool
seek_normal seek.Reached = true
seek_normal _ = false
