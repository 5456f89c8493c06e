-- How commands end: CB falls, CEH or CEL rises, and the results replace what the buffer held.
use Rattle.std.specs.Prelude.{ℕ, ◌/◌, ◌%◌, Bool, true, false, not, List, [], ◌∷◌, None}
use Rattle.registers.specs.declared.end.End.{End}
use Rattle.registers.specs.declared.end.SeekEnd.{SeekEnd}
use Rattle.registers.specs.declared.numbers.Numbers.{Numbers}
use Rattle.registers.specs.declared.status.Flags.{Flags}
use Rattle.registers.specs.Ends.{error_byte, is_normal, requests_reset, shows_id_error, seek_byte, seek_normal}
use Rattle.controller.specs.State.{State}

-- nothing runs any more; these flags show, and the buffer holds these results
abbrev pub ended : Flags → List ℕ → State → State
ended flags results s =
    record s { buffer = results; registers = record s.registers { running = None; flags = flags; results = true } }

-- CEH for a normal end, CEL for another
abbrev pub plain_flags : Bool → Flags
plain_flags normal = record { ended_high = normal; ended_low = not normal; reset_request = false; id_error = false }

-- CEH and CEL, and RRQ and IER where the end has them
abbrev pub end_flags : End → Flags
end_flags end =
    record { ended_high = is_normal end; ended_low = not (is_normal end); reset_request = requests_reset end; id_error = shows_id_error end }

-- Seek and Recalibrate: the result is IST
abbrev pub seek_ended : SeekEnd → ℕ → State → State
seek_ended end unit s = ended (plain_flags (seek_normal end)) (seek_byte end unit ∷ []) s

-- Read Data, Check and Write Data: the results are EST, PHN, LCNH, LCNL, LHN, LSN, SCNT
abbrev pub transfer_results : End → Numbers → List ℕ
transfer_results end n =
    error_byte end ∷ n.head.0 ∷ n.address.cylinder.0 / 256 ∷ n.address.cylinder.0 % 256 ∷ n.address.head.0 ∷ n.address.sector.0 ∷ n.count ∷ []

abbrev pub transfer_ended : End → Numbers → State → State
transfer_ended end n s = ended (end_flags end) (transfer_results end n) s

-- Format: the results are EST, SCNT
abbrev pub format_ended : End → ℕ → State → State
format_ended end count s = ended (end_flags end) (error_byte end ∷ count ∷ []) s
