-- What a command byte asks for.
use Rattle.std.specs.Prelude.{ℕ, ◌/◌, ◌%◌, Bool, cond, ◌&&◌, Some, None, Option, Ok, Err, Result, ◌==◌}
use Rattle.registers.specs.declared.command.Command.{Command}
use Rattle.registers.specs.declared.command.Command.TheVariants.{Auxiliary, Specify, SenseUnitStatus, Recalibrate, Seek, Format, Transfer, Invalid}
use Rattle.registers.specs.declared.kind.Kind.TheVariants.{Read, Check, Write}
use Rattle.registers.specs.declared.refusal.Refusal.{Refusal}
use Rattle.registers.specs.declared.refusal.Refusal.TheVariants.{Busy}
use Rattle.registers.specs.declared.setting.Setting.{Setting}
use Rattle.registers.specs.Bits.{bit}

-- the unit bits
abbrev pub unit_of : ℕ → ℕ
unit_of byte = byte % 8

-- the code bits without the lowest, which is ignored
abbrev pub code_of : ℕ → ℕ
code_of byte = byte / 16

-- bytes 00 to 0F are auxiliary: bit 3 is CLCE, bit 2 HSRQ (no effect), bit 1 CLB, bit 0 RST
abbrev pub auxiliary_of : ℕ → Command
auxiliary_of byte = Auxiliary (record { clear_end = bit 3 byte; clear_buffer = bit 1 byte; reset = bit 0 byte })

-- a transfer needs an earlier Specify, and runs under its setting
abbrev pub under : Option Setting → (Setting → Command) → Command
under None transfer = Invalid
under (Some setting) transfer = transfer setting

-- a disk command that is written while none runs, by its code: each has its own number of parameters, and Specify is for
-- unit 0
abbrev pub disk_command : ℕ → ℕ → ℕ → Option Setting → Command
disk_command code unit count setting =
    cond (code == 0x2 && (count == 8 && unit == 0)) Specify
    (cond (code == 0x3 && count == 0) (SenseUnitStatus unit)
    (cond (code == 0x5 && count == 0) (Recalibrate unit)
    (cond (code == 0x6 && count == 2) (Seek unit)
    (cond (code == 0x7 && count == 5) (under setting (Format unit))
    (cond (code == 0xb && count == 6) (under setting (Transfer Read unit))
    (cond (code == 0xc && count == 6) (under setting (Transfer Check unit))
    (cond (code == 0xf && count == 6) (under setting (Transfer Write unit)) Invalid)))))))

-- any byte, with so many parameters in the buffer; a disk command that is written while another one runs is refused
unfoldable pub decided : ℕ → ℕ → Bool → Option Setting → Result Command Refusal
decided byte count busy setting =
    cond (code_of byte == 0) (Ok (auxiliary_of byte))
    (cond busy (Err Busy) (Ok (disk_command (code_of byte) (unit_of byte) count setting)))
