use Rattle.check_bytes.proofs.Division.{division_leaves_a_remainder, only_one_remainder}
use Rattle.check_bytes.proofs.theorems.remainders_stand.Goals as goal

pub returns : goal.returns
returns c = record { exists = division_leaves_a_remainder; unique = only_one_remainder }
