-- What the port shows and asks for: busy, the data request, the interrupt, the status byte.
use Rattle.std.specs.Prelude.{ℕ, ◌+◌, Bool, false, cond, not, ◌&&◌, ◌||◌, Some, None, Option, is_some, nat_le, nat_lt}
use Rattle.registers.specs.declared.running.Running.{Running}
use Rattle.registers.specs.declared.running.Running.TheVariants.{Transfer, Format}
use Rattle.registers.specs.declared.running.Stage.{Stage}
use Rattle.registers.specs.declared.running.Stage.TheVariants.{Bytes}
use Rattle.registers.specs.declared.status.Flags.{Flags}
use Rattle.registers.specs.Bits.{weight}
use Rattle.registers.specs.Kinds.{hands_out}

-- how many bytes a running command still wants from the host: Write Data those of one sector, Format those of all slots
-- together
abbrev pub wanted : Running → ℕ
wanted (Transfer t) = t.wanted
wanted (Format f) = f.wanted
wanted _ = 0

-- the bytes in the buffer are for the host where Read Data runs
abbrev pub hands_bytes : Running → Bool
hands_bytes (Transfer t) = hands_out t.kind
hands_bytes _ = false

-- a sector's first byte turn is made, and its last one is not
abbrev pub is_mid_sector : Stage → Bool
is_mid_sector (Bytes slot done) = nat_lt 0 done
is_mid_sector _ = false

-- bytes for the host are asked off when there are three, or any between the last byte turn of a sector and the first of
-- the next one
abbrev pub offers : Running → ℕ → Bool
offers (Transfer t) count = hands_out t.kind && (nat_le 3 count || (nat_lt 0 count && not (is_mid_sector t.stage)))
offers _ count = false

-- DRQ: a byte is wanted and fewer than six are held, or bytes are offered
abbrev pub data_request : Option Running → ℕ → Bool
data_request None count = false
data_request (Some running) count = cond (nat_lt 0 (wanted running)) (nat_lt count 6) (offers running count)

abbrev pub no_flags : Flags
no_flags = record { ended_high = false; ended_low = false; reset_request = false; id_error = false }

-- the interrupt line is CEH or CEL
abbrev pub interrupt : Flags → Bool
interrupt flags = flags.ended_high || flags.ended_low

-- bit 7 to 0: CB, CEH, CEL, SRQ, RRQ, IER, NCI, DRQ; CB is 1 while a command runs, SRQ and NCI are 0
abbrev pub status_byte : Option Running → Flags → ℕ → ℕ
status_byte running flags count =
    weight (is_some running) 0x80
    + weight flags.ended_high 0x40
    + weight flags.ended_low 0x20
    + weight flags.reset_request 0x08
    + weight flags.id_error 0x04
    + weight (data_request running count) 0x01
