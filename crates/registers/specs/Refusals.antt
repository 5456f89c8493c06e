-- The numbers of the port's refusals. Those of an image are 1 to 4.
use Rattle.std.specs.Prelude.{ℕ}
use Rattle.registers.specs.declared.refusal.Refusal.{Refusal}
use Rattle.registers.specs.declared.refusal.Refusal.TheVariants.{NotWanted, Full, NothingToRead, Busy, NoTransfer, MissingUnit, NotEnded}

abbrev pub refusal_number : Refusal → ℕ
refusal_number NotWanted = 5
refusal_number Full = 6
refusal_number NothingToRead = 7
refusal_number Busy = 8
refusal_number NoTransfer = 9
refusal_number MissingUnit = 10
refusal_number NotEnded = 11
