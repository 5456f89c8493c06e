use Rattle.check_bytes.proofs.Feeding.{check_is_the_remainder, nothing_fed, one_byte_more}
use Rattle.check_bytes.proofs.theorems.checks_stand.Goals as goal

pub returns : goal.returns
returns c = record { remainder = check_is_the_remainder; nothing = nothing_fed; more = one_byte_more }
