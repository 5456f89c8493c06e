use Rattle.std.proofs.Common.{◌≡◌, map, drop}
use Rattle.images.specs.Layers.{string_verdict}
use Rattle.images.proofs.layers.check_string.Given as goal

abbrev pub invariant-loop-unit : goal.invariant-loop-unit
invariant-loop-unit l = string_verdict 0 (map (λ x. x.now) l.images) ≡ string_verdict l.unit (drop l.unit (map (λ x. x.now) l.images))
