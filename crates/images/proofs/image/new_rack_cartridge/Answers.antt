use Rattle.std.proofs.Common.{ap, ◌∙◌}
use Rattle.memory.specs.declared.rack.RackMemory.TheVariants.{Cartridge}
use Rattle.images.proofs.image.new_rack_cartridge.Goals as goal

pub returns-clause-memory : goal.returns-clause-memory
returns-clause-memory c = c.cartridge_over.ensures.memory ∙ ap (λ bytes. Cartridge (record { bytes = bytes })) c.new.ensures
