use Rattle.std.proofs.Common.{◌≡◌}
use Rattle.registers.specs.Buffers.{held}
use Rattle.transfers.specs.Steps.{beside}
use Rattle.transfers.proofs.Lent.{transfer_keeps_loan, transfer_on_loan, transfer_keeps_rest}
use Rattle.transfers.proofs.transfer.turn_on_loan.Goals as goal

pub returns-clause-same_loan : goal.returns-clause-same_loan
returns-clause-same_loan g c =
    transfer_keeps_loan
    c.args.t c.transfer_turn-outcome.result
    (beside g.S.DriveString c.args.path.now.string.now (held c.args.path.now.buffer))
    (beside g.S.DriveString c.transfer_turn-outcome.new.self.string.now (held c.transfer_turn-outcome.new.self.buffer))
    c.args.path.now.string.ghost_name c.transfer_turn-outcome.new.self.string.ghost_name c.transfer_turn-outcome.ensures

pub returns-clause-state : goal.returns-clause-state
returns-clause-state g c =
    transfer_on_loan
    c.args.t c.transfer_turn-outcome.result
    (beside g.S.DriveString c.args.path.now.string.now (held c.args.path.now.buffer))
    (beside g.S.DriveString c.transfer_turn-outcome.new.self.string.now (held c.transfer_turn-outcome.new.self.buffer))
    c.args.path.now.string.ghost_name c.transfer_turn-outcome.new.self.string.ghost_name c.transfer_turn-outcome.ensures

pub returns-clause-rest : goal.returns-clause-rest
returns-clause-rest g c =
    transfer_keeps_rest
    c.args.t c.transfer_turn-outcome.result
    (beside g.S.DriveString c.args.path.now.string.now (held c.args.path.now.buffer))
    (beside g.S.DriveString c.transfer_turn-outcome.new.self.string.now (held c.transfer_turn-outcome.new.self.buffer))
    c.args.path.now.string.ghost_name c.transfer_turn-outcome.new.self.string.ghost_name c.transfer_turn-outcome.ensures
