use Rattle.laws.proofs.OfRows.{where_they_lie, every_byte, exactly_that_byte}
use Rattle.laws.proofs.rows_stand.Goals as goal

pub returns : goal.returns
returns c = record { lie = where_they_lie; named = every_byte; exactly = exactly_that_byte }
