use Rattle.plans.proofs.fault.display.PlanFaultDisplay.fmt.Goals as goal

pub returns-in-IntergreenOutOfRange-clause-writes :
    goal.returns-in-IntergreenOutOfRange-clause-writes
returns-in-IntergreenOutOfRange-clause-writes g c =
    rw c.in-IntergreenOutOfRange.is c.wrong_in-in-IntergreenOutOfRange.ensures
