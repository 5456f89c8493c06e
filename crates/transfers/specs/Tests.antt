-- The tests before every turn of a transfer.
use Rattle.std.specs.Prelude.{ℕ, Bool, cond, not, ◌&&◌, List, length, Ok, Err, Result, nat_lt}
use Rattle.drives.specs.declared.parts.Line.TheVariants.{Ready, Fault}
use Rattle.drives.specs.Drives.{Drive, drive}
use Rattle.registers.specs.declared.end.End.{End}
use Rattle.registers.specs.declared.end.End.TheVariants.{EquipmentCheck, NotReady}

-- a test is passed, or makes an end
abbrev pub Test : Type 0
Test = Result (Unit {0}) End

-- a unit that the controller reaches: one of the first four, and of the string
abbrev pub is_present : ℕ → List Drive → Bool
is_present unit ds = nat_lt unit 4 && nat_lt unit (length ds)

-- a unit is ready; a missing one is not
abbrev pub is_ready : ℕ → List Drive → Bool
is_ready unit ds = nat_lt unit 4 && (drive ds unit).lines Ready

-- not ready, NR; fault, EQC
abbrev pub line_test : ℕ → List Drive → Test
line_test unit ds =
    cond (not (is_ready unit ds)) (Err NotReady) (cond ((drive ds unit).lines Fault) (Err EquipmentCheck) (Ok tt))
