-- What each call of the port answers, and what it makes of the state. A refused call alters nothing.
use Rattle.std.specs.Prelude.{ℕ, ◌-◌, Bool, true, false, cond, List, [], ◌∷◌, length, Some, None, Option, Ok, Err, Result, ◌==◌, nat_le}
use Rattle.std.specs.Option.{option_map_or}
use Rattle.drives.specs.declared.parts.Line.{Line}
use Rattle.drives.specs.Changes.{changed, with_line}
use Rattle.registers.specs.declared.kind.Kind.{Kind}
use Rattle.registers.specs.declared.kind.Kind.TheVariants.{Read, Check, Write}
use Rattle.registers.specs.declared.refusal.Refusal.{Refusal}
use Rattle.registers.specs.declared.refusal.Refusal.TheVariants.{NotWanted, Full, NothingToRead, NoTransfer, MissingUnit}
use Rattle.registers.specs.declared.running.Running.{Running}
use Rattle.registers.specs.declared.running.Running.TheVariants as running
use Rattle.registers.specs.declared.running.Transfer.{Transfer}
use Rattle.registers.specs.Buffers.{added}
use Rattle.registers.specs.Requests.{wanted, hands_bytes}
use Rattle.transfers.specs.Tests.{is_present}
use Rattle.controller.specs.State.{State, with_drives, with_buffer, with_running}
use Rattle.controller.specs.Starting.{Answer}

-- ---- the data register

-- one byte fewer is wanted
abbrev pub less_wanted : Running → Running
less_wanted (running.Transfer t) = running.Transfer (record t { wanted = t.wanted - 1 })
less_wanted (running.Format f) = running.Format (record f { wanted = f.wanted - 1 })
less_wanted other = other

-- the buffer for parameters holds one byte alone: it drops results
abbrev pub first_parameter : ℕ → State → State
first_parameter byte s = record s { buffer = byte ∷ []; registers = record s.registers { results = false } }

-- unless it holds eight
abbrev pub byte_kept : ℕ → State → Answer × State
byte_kept byte s = cond (nat_le 8 (length s.buffer)) (Err Full, s) (Ok tt, with_buffer (added s.buffer byte) s)

-- while a command runs
abbrev pub byte_given : ℕ → Running → State → Answer × State
byte_given byte r s =
    cond (wanted r == 0) (Err NotWanted, s)
    (cond (nat_le 8 (length s.buffer)) (Err Full, s)
    (Ok tt, with_running (Some (less_wanted r)) (with_buffer (added s.buffer byte) s)))

-- a byte for the running command, or a parameter
abbrev pub byte_written : ℕ → Option Running → State → Answer × State
byte_written byte (Some r) s = byte_given byte r s
byte_written byte None s = cond s.registers.results (Ok tt, first_parameter byte s) (byte_kept byte s)

-- a byte written to the data register
abbrev pub write_step : ℕ → State → Answer × State
write_step byte s = byte_written byte s.registers.running s

-- the bytes in the buffer are for the host: those of a running Read Data, or results
abbrev pub is_readable : State → Bool
is_readable s = option_map_or hands_bytes s.registers.running s.registers.results

-- the oldest byte
abbrev pub handed : List ℕ → State → Result ℕ Refusal × State
handed [] s = (Err NothingToRead, s)
handed (byte ∷ rest) s = (Ok byte, with_buffer rest s)

-- a byte read from it
abbrev pub read_step : State → Result ℕ Refusal × State
read_step s = cond (is_readable s) (handed s.buffer s) (Err NothingToRead, s)

-- ---- terminal count

-- nothing more is wanted of this sector, and what is left of it is hidden from the host or taken as 00
abbrev pub cut_off : Transfer → Transfer
cut_off t = record t { wanted = 0; cut = true }

-- in Read Data the buffer is emptied too
abbrev pub transfer_cut : Kind → Transfer → State → Answer × State
transfer_cut Read t s = (Ok tt, with_running (Some (running.Transfer (cut_off t))) (with_buffer [] s))
transfer_cut Check t s = (Err NoTransfer, s)
transfer_cut Write t s = (Ok tt, with_running (Some (running.Transfer (cut_off t))) s)

-- no other command is cut off
abbrev pub cut_by : Option Running → State → Answer × State
cut_by (Some (running.Transfer t)) s = transfer_cut t.kind t s
cut_by other s = (Err NoTransfer, s)

-- the running command is cut off
abbrev pub terminal_step : State → Answer × State
terminal_step s = cut_by s.registers.running s

-- ---- a line

-- the line of a unit that is there is set
abbrev pub line_step : ℕ → Line → Bool → State → Answer × State
line_step unit line value s =
    cond (is_present unit s.drives) (Ok tt, with_drives (changed s.drives unit (with_line line value)) s) (Err MissingUnit, s)
