use Rattle.check_bytes.proofs.Damage.{own_check_leaves_nothing, damage_is_seen}
use Rattle.check_bytes.proofs.theorems.checks_detect.Goals as goal

pub returns : goal.returns
returns c = record { own = own_check_leaves_nothing; damage = damage_is_seen }
