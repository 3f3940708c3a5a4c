-- The places that pass are counted.
use Rattle.std.proofs.Common.{◌-◌, rules}
use Rattle.geometry.specs.Geometry.{within}
use Rattle.names.proofs.places_inside.Goals as goal

pub returns : goal.returns
returns c = c.count_passing.ensures.counted (within 1 (c.args.n - 1)) (λ k b h p. search rules)
