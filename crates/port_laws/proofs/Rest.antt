-- Nothing alters memory that the drives do not name.
use Rattle.std.proofs.Common.{◌≡◌, Some, Option, [], ◌∷◌, refl, ◌∙◌, arith}
use Rattle.std.proofs.lemmas.Grind.{common_steps}
use Rattle.registers.specs.declared.running.Running.{Running}
use Rattle.registers.specs.declared.running.Running.TheVariants as running
use Rattle.registers.specs.declared.running.Transfer.{Transfer}
use Rattle.registers.specs.declared.running.Format.{Format}
use Rattle.transfers.specs.Steps.{Outcome}
use Rattle.transfers.specs.Transfers.{transfer_turn}
use Rattle.transfers.specs.Formats.{format_turn}
use Rattle.controller.specs.State.{State, path_of}
use Rattle.controller.specs.Turns.{transfer_follows, format_follows, turn_of}
use Rattle.runs.specs.declared.call.Call.TheVariants.{Turn}
use Rattle.runs.specs.Calls.{after}
use Rattle.port_laws.specs.OfRest.{TransfersKeepRest, FormatsKeepRest, RestStays, RestStaysAfterCalls}

transfers_keep_rest : TransfersKeepRest
transfers_keep_rest t p = grind (arith, common_steps)

formats_keep_rest : FormatsKeepRest
formats_keep_rest f p = grind (arith, common_steps)

followed_rest : (o : Outcome Transfer) (s : State) → (transfer_follows o s).rest ≡ s.rest
followed_rest o s = grind (arith, common_steps)

followed_format_rest : (o : Outcome Format) (s : State) → (format_follows o s).rest ≡ s.rest
followed_format_rest o s = grind (arith, common_steps)

turn_rest : (r : Option Running) (s : State) → (turn_of r s).rest ≡ s.rest
turn_rest (Some (running.Transfer t)) s = followed_rest (transfer_turn t (path_of s)).0 _ ∙ transfers_keep_rest t (path_of s)
turn_rest (Some (running.Format f)) s = followed_format_rest (format_turn f (path_of s)).0 _ ∙ formats_keep_rest f (path_of s)
turn_rest r s = grind (arith, common_steps)

pub rest_stays : RestStays
rest_stays Turn s = turn_rest s.registers.running s
rest_stays call s = grind (arith, common_steps)

pub rest_after : RestStaysAfterCalls
rest_after ds rest [] = refl
rest_after ds rest (call ∷ past) = rest_stays call (after ds rest past) ∙ rest_after ds rest past
