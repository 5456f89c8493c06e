use Rattle.std.proofs.Common.{◌≡◌}
use Rattle.registers.specs.Buffers.{held}
use Rattle.transfers.specs.Steps.{beside}
use Rattle.transfers.proofs.Lent.{format_keeps_loan, format_on_loan, format_keeps_rest}
use Rattle.transfers.proofs.format.turn_on_loan.Goals as goal

pub returns-clause-same_loan : goal.returns-clause-same_loan
returns-clause-same_loan g c =
    format_keeps_loan
    c.args.f c.format_turn-outcome.result
    (beside g.S.DriveString c.args.path.now.string.now (held c.args.path.now.buffer))
    (beside g.S.DriveString c.format_turn-outcome.new.self.string.now (held c.format_turn-outcome.new.self.buffer))
    c.args.path.now.string.ghost_name c.format_turn-outcome.new.self.string.ghost_name c.format_turn-outcome.ensures

pub returns-clause-state : goal.returns-clause-state
returns-clause-state g c =
    format_on_loan
    c.args.f c.format_turn-outcome.result
    (beside g.S.DriveString c.args.path.now.string.now (held c.args.path.now.buffer))
    (beside g.S.DriveString c.format_turn-outcome.new.self.string.now (held c.format_turn-outcome.new.self.buffer))
    c.args.path.now.string.ghost_name c.format_turn-outcome.new.self.string.ghost_name c.format_turn-outcome.ensures

pub returns-clause-rest : goal.returns-clause-rest
returns-clause-rest g c =
    format_keeps_rest
    c.args.f c.format_turn-outcome.result
    (beside g.S.DriveString c.args.path.now.string.now (held c.args.path.now.buffer))
    (beside g.S.DriveString c.format_turn-outcome.new.self.string.now (held c.format_turn-outcome.new.self.buffer))
    c.args.path.now.string.ghost_name c.format_turn-outcome.new.self.string.ghost_name c.format_turn-outcome.ensures
