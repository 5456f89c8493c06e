-- The memory of any drive of a rack.
use Rattle.std.specs.Prelude.{ℕ, List}
use Rattle.memory.specs.declared.rack.RackMemory.{RackMemory}
use Rattle.memory.specs.declared.rack.RackMemory.TheVariants.{Image, Cartridge}

-- what stands in it, where `contents` says what stands in an image's memory
abbrev pub rack_contents : {M : Type 0} → (M → List ℕ) → RackMemory M → List ℕ
rack_contents contents (Image m) = contents m
rack_contents contents (Cartridge cells) = cells.bytes
