-- That nothing alters memory that the drives do not name.
use Rattle.std.specs.Prelude.{◌≡◌, List}
use Rattle.drives.specs.Drives.{Drive}
use Rattle.drives.specs.Sound.{Rest}
use Rattle.registers.specs.declared.running.Format.{Format}
use Rattle.registers.specs.declared.running.Transfer.{Transfer}
use Rattle.transfers.specs.Steps.{Path}
use Rattle.transfers.specs.Transfers.{transfer_turn}
use Rattle.transfers.specs.Formats.{format_turn}
use Rattle.controller.specs.State.{State}
use Rattle.runs.specs.declared.call.Call.{Call}
use Rattle.runs.specs.Calls.{call_step, after}

-- no call alters memory that the drives do not name
abbrev pub RestStays : Type 0
RestStays = (call : Call) (s : State) → (call_step call s).1.rest ≡ s.rest

-- after any list of calls it is what the fresh controller had
abbrev pub RestStaysAfterCalls : Type 0
RestStaysAfterCalls = (ds : List Drive) (rest : Rest) (calls : List Call) → (after ds rest calls).rest ≡ rest

-- no turn of a transfer alters it
abbrev pub TransfersKeepRest : Type 0
TransfersKeepRest = (t : Transfer) (p : Path) → (transfer_turn t p).1.rest ≡ p.rest

-- nor does a turn of a Format
abbrev pub FormatsKeepRest : Type 0
FormatsKeepRest = (f : Format) (p : Path) → (format_turn f p).1.rest ≡ p.rest
