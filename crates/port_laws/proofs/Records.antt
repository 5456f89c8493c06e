-- The cylinders that the controller believes its units to be on.
use Rattle.std.proofs.Common.{◌≡◌, ◌≢◌, ℕ, ◌<◌, length, refl, arith}
use Rattle.std.proofs.lemmas.Grind.{common_steps, elements}
use Rattle.drives.specs.declared.parts.Direction.{Direction}
use Rattle.registers.specs.declared.units.UnitRecords.{UnitRecords}
use Rattle.registers.specs.Records.{record_at, moved_record, believed, moved, recalled, all_zero}
use Rattle.controller.specs.Turns.{towards}
use Rattle.port_laws.specs.OfEnds.{distance}

-- four records of sixteen bits
pub record Narrow (units : UnitRecords) : Type 0 where
  pub four : length units.of ≡ 4
  pub small : (u : ℕ) → believed units u < 65536

moved_here : (units : UnitRecords) (u : ℕ) (d : Direction) → length units.of ≡ 4 → u < 4 → believed (moved units u d) u ≡ (moved_record d (record_at (believed units u))).cylinder.0
unfolding believed moved
moved_here units u d e l = grind (arith, common_steps, elements)

pub recalled_small : (units : UnitRecords) (u v : ℕ) → believed units v < 65536 → believed (recalled units u) v < 65536
unfolding believed recalled
recalled_small units u v l = grind (arith, common_steps, elements)

pub moved_four : (units : UnitRecords) (u : ℕ) (d : Direction) → length (moved units u d).of ≡ length units.of
unfolding moved
moved_four units u d = grind (arith, common_steps, elements)

pub recalled_four : (units : UnitRecords) (u : ℕ) → length (recalled units u).of ≡ length units.of
unfolding recalled
recalled_four units u = grind (arith, common_steps, elements)

pub moved_small : (units : UnitRecords) (u v : ℕ) (d : Direction) → believed units v < 65536 → believed (moved units u d) v < 65536
unfolding believed moved
moved_small units u v d l = grind (arith, common_steps, elements)

pub zero_narrow : Narrow all_zero
unfolding believed all_zero
zero_narrow = record { four = refl; small = λ v. grind (arith, common_steps, elements) }

-- a pulse towards the target brings PCN nearer to it
pub pulse_nearer : (units : UnitRecords) (u target : ℕ) → Narrow units → u < 4 → target < 65536 → believed units u ≢ target → distance (believed (moved units u (towards (believed units u) target)) u) target < distance (believed units u) target
pulse_nearer units u target k l m n =
    let e = moved_here units u (towards (believed units u) target) k.four l in
    let s = k.small u in
    grind (arith, common_steps)
