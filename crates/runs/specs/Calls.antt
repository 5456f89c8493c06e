-- What any call answers, what it makes of the state, and the state after any list of calls.
use Rattle.std.specs.Prelude.{ℕ, List, [], ◌∷◌, Ok, Some, None, Option, Result}
use Rattle.std.specs.Result.{result_map_both}
use Rattle.drives.specs.Drives.{Drive}
use Rattle.drives.specs.Sound.{Rest}
use Rattle.registers.specs.declared.refusal.Refusal.{Refusal}
use Rattle.controller.specs.State.{State, fresh}
use Rattle.controller.specs.Starting.{reset_done, command_step}
use Rattle.controller.specs.Turns.{turned}
use Rattle.controller.specs.Calls.{write_step, read_step, terminal_step, line_step}
use Rattle.runs.specs.declared.call.Call.{Call}
use Rattle.runs.specs.declared.call.Call.TheVariants.{WriteData, ReadData, WriteCommand, Turn, TerminalCount, SetLine, Reset}

-- a call is declined, or answers the byte that it reads, if it reads one
abbrev pub Answer : Type 0
Answer = Result (Option ℕ) Refusal

-- a step's answer, with the byte that it gives the host, if it gives one
abbrev pub answered : {T : Type 0} → (T → Option ℕ) → Result T Refusal × State → Answer × State
answered byte (result, s) = (result_map_both byte (λ refusal. refusal) result, s)

abbrev pub call_step : Call → State → Answer × State
call_step (WriteData byte) s = answered (λ _. None) (write_step byte s)
call_step ReadData s = answered Some (read_step s)
call_step (WriteCommand byte) s = answered (λ _. None) (command_step byte s)
call_step Turn s = (Ok None, turned s)
call_step TerminalCount s = answered (λ _. None) (terminal_step s)
call_step (SetLine unit line value) s = answered (λ _. None) (line_step unit line value s)
call_step Reset s = (Ok None, reset_done s)

-- the state of a fresh controller over a string of drives after calls, the newest first
abbrev pub after : List Drive → Rest → List Call → State
after ds rest [] = fresh ds rest
after ds rest (call ∷ past) = (call_step call (after ds rest past)).1
