-- What the bytes of a stage mean.
use Rattle.std.specs.Prelude.{ℕ, ◌+◌, cond, Some, None, Option, Result, ◌==◌}
use Rattle.std.specs.Option.{ok_or}
use Rattle.plans.specs.declared.stage.Movement.{Movement}
use Rattle.plans.specs.declared.stage.Movement.TheVariants.{MainRoad, SideRoad, TurningTraffic, Pedestrians}
use Rattle.plans.specs.declared.stage.Stage.{Stage}
use Rattle.plans.specs.declared.stage.UnknownMovement.{UnknownMovement}

-- the byte that stands for a movement
abbrev pub movement_code : Movement → ℕ
movement_code MainRoad = 1
movement_code SideRoad = 2
movement_code TurningTraffic = 3
movement_code Pedestrians = 4

-- the movement that a byte stands for, if any
abbrev pub movement_of : ℕ → Option Movement
movement_of b =
    cond (b == 1) (Some MainRoad)
    (cond (b == 2) (Some SideRoad)
    (cond (b == 3) (Some TurningTraffic)
    (cond (b == 4) (Some Pedestrians)
    None)))

-- the same, with the byte where it stands for none
abbrev pub movement_read : ℕ → Result Movement UnknownMovement
movement_read b = ok_or (movement_of b) (record { 0 = b })

-- the seconds that a stage takes: its green and its intergreen
abbrev pub stage_seconds : Stage → ℕ
stage_seconds s = s.green + s.intergreen
